-- The places and the length after an entry, at a named index or at the lowest vacant place.
use Rattle.std.proofs.Common.{◌≡◌, ℕ, ◌<◌, ◌≤◌, true, false, ◌≢◌, List, length, set, is_some, Some, None, Ok, Err, Option, Result, sym, refl, ap, ◌∙◌, ⊎_elim, arith, length-set}
use Rattle.std.proofs.lemmas.Bool.{cases_eq, true≢false}
use Rattle.std.proofs.lemmas.Bool.Decides.{nat_tests}
use Rattle.places.specs.declared.PlaceFault.{PlaceFault}
use Rattle.places.specs.Places.{at, entry_at, first_vacant, grown, places_after, length_after, places_new, length_new}
use Rattle.places.specs.Laws.{places_named, length_named, places_entered, length_entered, Counted}
use Rattle.places.proofs.Laws.{at_set_none, at_set_same, at_set_other, entry_within, entry_vacant}
use Rattle.places.proofs.Vacant.{vacant_there, vacant_within}

pub none_if : {T : Type 0} (o : Option T) → is_some o ≡ false → o ≡ None
none_if None e = refl
none_if (Some x) e = absurd (true≢false e)

pub grown_above : (len i : ℕ) → (len ≤ grown len i) × (i < grown len i)
grown_above len i = (grind (arith, nat_tests), grind (arith, nat_tests))

module _ {T : Type 0} (xs : List (Option T)) (len : ℕ) where
  pub named_holds : (i : ℕ) (x : T) → entry_at xs len i ≡ Ok tt → at (places_named xs len i x) i ≡ Some x
  named_holds i x e = ap (λ r. at (places_after r xs i x) i) e ∙ at_set_same xs i (Some x) (entry_within xs len i e)

  others_at : (r : Result (Unit {0}) PlaceFault) (i j : ℕ) (x : T) → j ≢ i → at (places_after r xs i x) j ≡ at xs j
  others_at (Ok u) i j x h = at_set_other xs i j (Some x) h
  others_at (Err f) i j x h = refl

  pub named_others : (i j : ℕ) (x : T) → j ≢ i → at (places_named xs len i x) j ≡ at xs j
  named_others i j x h = others_at (entry_at xs len i) i j x h

  pub named_refused : (i : ℕ) (x : T) (f : PlaceFault) → entry_at xs len i ≡ Err f → (places_named xs len i x ≡ xs) × (length_named xs len i ≡ len)
  named_refused i x f e = (ap (λ r. places_after r xs i x) e, ap (λ r. length_after r len i) e)

  capacity_at : (r : Result (Unit {0}) PlaceFault) (i : ℕ) (x : T) → length (places_after r xs i x) ≡ length xs
  capacity_at (Ok u) i x = length-set xs i (Some x)
  capacity_at (Err f) i x = refl

  pub named_capacity : (i : ℕ) (x : T) → length (places_named xs len i x) ≡ length xs
  named_capacity i x = capacity_at (entry_at xs len i) i x

  length_at : (r : Result (Unit {0}) PlaceFault) (i : ℕ) → len ≤ length_after r len i
  length_at (Ok u) i = (grown_above len i).0
  length_at (Err f) i = omega arith

  pub named_length : (i : ℕ) → len ≤ length_named xs len i
  named_length i = length_at (entry_at xs len i) i

  new_length_at : (r : Option ℕ) → len ≤ length_new r len
  new_length_at (Some i) = (grown_above len i).0
  new_length_at None = omega arith

  pub new_length : len ≤ length_entered xs len
  new_length = new_length_at (first_vacant xs len)

  pub new_holds : (i : ℕ) (x : T) → first_vacant xs len ≡ Some i → at (places_entered xs len x) i ≡ Some x
  new_holds i x e = ap (λ r. at (places_new r xs x) i) e ∙ at_set_same xs i (Some x) (vacant_within xs len i e)

  pub new_others : (i j : ℕ) (x : T) → first_vacant xs len ≡ Some i → j ≢ i → at (places_entered xs len x) j ≡ at xs j
  new_others i j x e h = ap (λ r. at (places_new r xs x) j) e ∙ at_set_other xs i j (Some x) h

  pub new_refused : (x : T) → first_vacant xs len ≡ None → (places_entered xs len x ≡ xs) × (length_entered xs len ≡ len)
  new_refused x e = (ap (λ r. places_new r xs x) e, ap (λ r. length_new r len) e)

  pub new_vacant : (i : ℕ) → Counted xs len → first_vacant xs len ≡ Some i → at xs i ≡ None
  new_vacant i c e = ⊎_elim (λ p. p.1) (λ q. c i (omega arith)) (vacant_there xs len i e)

  -- a record at the index i, and a length above i
  pub set_counted : (i : ℕ) (x : T) → Counted xs len → Counted (set xs i (Some x)) (grown len i)
  set_counted i x c j h =
      let g = grown_above len i in
      at_set_other xs i j (Some x) (λ q. absurd (omega (arith, g.1))) ∙ c j (omega (arith, g.0))

  named_counted_at : (r : Result (Unit {0}) PlaceFault) (i : ℕ) (x : T) → Counted xs len → Counted (places_after r xs i x) (length_after r len i)
  named_counted_at (Ok u) i x c = set_counted i x c
  named_counted_at (Err f) i x c = c

  pub named_counted : (i : ℕ) (x : T) → Counted xs len → Counted (places_named xs len i x) (length_named xs len i)
  named_counted i x c = named_counted_at (entry_at xs len i) i x c

  new_counted_at : (r : Option ℕ) (x : T) → Counted xs len → Counted (places_new r xs x) (length_new r len)
  new_counted_at (Some i) x c = set_counted i x c
  new_counted_at None x c = c

  pub new_counted : (x : T) → Counted xs len → Counted (places_entered xs len x) (length_entered xs len)
  new_counted x c = new_counted_at (first_vacant xs len) x c

  pub taken_counted : (i : ℕ) → Counted xs len → Counted (set xs i None) len
  taken_counted i c j h =
      ⊎_elim (λ q. ap (λ (k : ℕ). at (set xs i None) k) q ∙ at_set_none xs i) (λ n. at_set_other xs i j None n ∙ c j h) (cases_eq j i)

  -- an occupied place is below a length that counts every place ever used
  pub put_counted : (i : ℕ) (o : Option T) → is_some (at xs i) ≡ true → Counted xs len → Counted (set xs i o) len
  put_counted i o e c j h =
      let n : j ≢ i = λ q. true≢false (sym e ∙ ap is_some (c i (omega arith))) in
      at_set_other xs i j o n ∙ c j h

  pub named_vacant : (i : ℕ) → entry_at xs len i ≡ Ok tt → at xs i ≡ None
  named_vacant i e = none_if (at xs i) (entry_vacant xs len i e)
