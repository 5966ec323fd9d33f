-- What a place holds after an entry or a removal.
use Rattle.std.proofs.Common.{◌≡◌, ℕ, ◌<◌, false, ◌≢◌, List, length, get_or, set, is_some, None, Ok, Option, ap, ◌∙◌, ⊎_elim, arith}
use Rattle.std.proofs.lemmas.List.{get_or-set_same, get_or-set_other, get_or_past, set_past}
use Rattle.std.proofs.lemmas.Bool.{cases_lt}
use Rattle.std.proofs.lemmas.Bool.Decides.{nat_tests}
use Rattle.places.specs.Places.{at, entry_at}

pub at_set_none : {T : Type 0} (xs : List (Option T)) (i : ℕ) → at (set xs i None) i ≡ None
at_set_none xs i = ⊎_elim (λ h. get_or-set_same xs i None None h) (λ h. ap (λ (l : List (Option _)). get_or l i None) (set_past xs i None h) ∙ get_or_past xs i None h) (cases_lt i (length xs))

pub at_set_same : {T : Type 0} (xs : List (Option T)) (i : ℕ) (o : Option T) → i < length xs → at (set xs i o) i ≡ o
at_set_same xs i o h = get_or-set_same xs i o None h

pub at_set_other : {T : Type 0} (xs : List (Option T)) (i j : ℕ) (o : Option T) → j ≢ i → at (set xs i o) j ≡ at xs j
at_set_other xs i j o h = get_or-set_other xs i j o None h

-- an entry that succeeds is within the capacity, and at a vacant place
pub entry_within : {T : Type 0} (xs : List (Option T)) (len i : ℕ) → entry_at xs len i ≡ Ok tt → i < length xs
entry_within xs len i e = grind (arith, nat_tests)

pub entry_vacant : {T : Type 0} (xs : List (Option T)) (len i : ℕ) → entry_at xs len i ≡ Ok tt → is_some (at xs i) ≡ false
entry_vacant xs len i e = grind (arith, nat_tests)
