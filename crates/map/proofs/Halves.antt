-- What a definition by the halves of the ids says at an id of each half.
use Rattle.std.proofs.Common.{◌≡◌, ℕ, ◌<◌, ◌≤◌, cond, eqb, ltb, arith}
use Rattle.std.proofs.lemmas.Bool.Decides.{nat_tests}
use Rattle.map.specs.Map.{limit}

pub in_client : {T : Type 0} (id : ℕ) (x y z v : T) → (id ≡ 0 → ⊥) → id < limit → v ≡ y → v ≡ cond (eqb id 0) x (cond (ltb id limit) y z)
in_client id x y z v n h e = grind (arith, nat_tests)

pub in_server : {T : Type 0} (id : ℕ) (x y z v : T) → (id ≡ 0 → ⊥) → limit ≤ id → v ≡ z → v ≡ cond (eqb id 0) x (cond (ltb id limit) y z)
in_server id x y z v n h e = grind (arith, nat_tests)
