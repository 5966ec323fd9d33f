-- A table of pairs, as the library looks through a list.
use Rattle.std.proofs.Common.{◌≡◌, ℕ, Bool, true, false, cond, ◌||◌, List, [], ◌∷◌, refl, ap, ◌∙◌}
use Rattle.std.specs.List.{list_any}
use Rattle.backend.specs.declared.policy.Pair.{Pair}
use Rattle.backend.specs.Policies.{is_pair, paired}

either : (b c : Bool) → (b || c) ≡ cond b true c
either true c = refl
either false c = refl

pub listed : (ps : List Pair) (d h : ℕ) → list_any (λ p. is_pair p d h) ps ≡ paired ps d h
listed [] d h = refl
listed (p ∷ ps) d h = either (is_pair p d h) (list_any (λ q. is_pair q d h) ps) ∙ ap (λ (b : Bool). cond (is_pair p d h) true b) (listed ps d h)
