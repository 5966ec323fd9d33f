-- How many items pass, by the two definitions of it.
use Rattle.std.proofs.Common.{◌≡◌, ℕ, ◌+◌, Bool, true, false, cond, List, refl, arith}
use Rattle.std.specs.List.{count_by}
use Rattle.std.proofs.lemmas.List.Recursion.{is_count_by}
use Rattle.protocol.specs.Tallies.{count}

count_one : (b : Bool) (n : ℕ) → cond b 1 0 + n ≡ cond b (1 + n) n
count_one true n = refl
count_one false n = let e : 0 + n ≡ n = omega arith in e

pub counted : {X : Type 0} (f : X → Bool) (xs : List X) → count f xs ≡ count_by f xs
counted f xs = is_count_by (count f) f refl (λ y ys. count_one (f y) (count f ys)) xs
