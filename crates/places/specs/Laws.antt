-- The laws of a table of places, for records of any one kind: what each place holds after an entry, that the length
-- never falls, and that the two searches answer the lowest place.
use Rattle.std.specs.Prelude.{◌≡◌, ℕ, ◌<◌, ◌≤◌, true, ◌≢◌, ◌⊎◌, List, length, is_some, Some, None, Ok, Err, Option, slice_set}
use Rattle.places.specs.declared.PlaceFault.{PlaceFault}
use Rattle.places.specs.Places.{at, entry_at, first_vacant, places_after, length_after, places_new, length_new, occupied_from}

-- the places after an entry at the index i, whatever the answer
abbrev pub places_named : {T : Type 0} → List (Option T) → ℕ → ℕ → T → List (Option T)
places_named xs len i x = places_after (entry_at xs len i) xs i x

-- the length after an entry at the index i, whatever the answer
abbrev pub length_named : {T : Type 0} → List (Option T) → ℕ → ℕ → ℕ
length_named xs len i = length_after (entry_at xs len i) len i

-- the places after a new record is entered, or finds the table full
abbrev pub places_entered : {T : Type 0} → List (Option T) → ℕ → T → List (Option T)
places_entered xs len x = places_new (first_vacant xs len) xs x

-- the length after a new record is entered, or finds the table full
abbrev pub length_entered : {T : Type 0} → List (Option T) → ℕ → ℕ
length_entered xs len = length_new (first_vacant xs len) len

-- the length counts every place ever used: no place at or above it is occupied
abbrev pub Counted : {T : Type 0} → List (Option T) → ℕ → Type 0
Counted xs len = (i : ℕ) → len ≤ i → at xs i ≡ None

-- The length after `put` or `take` needs no law: these functions are not given it.
pub record TableLaws (T : Type 0) : Type 0 where
  -- after an entry at a named index that succeeds, the place at that index holds the record
  pub named_holds : (xs : List (Option T)) (len i : ℕ) (x : T) → entry_at xs len i ≡ Ok tt → at (places_named xs len i x) i ≡ Some x
  -- an entry at a named index succeeds at a vacant place only
  pub named_vacant : (xs : List (Option T)) (len i : ℕ) → entry_at xs len i ≡ Ok tt → at xs i ≡ None
  -- after any entry at a named index, every other place is as before
  pub named_others : (xs : List (Option T)) (len i j : ℕ) (x : T) → j ≢ i → at (places_named xs len i x) j ≡ at xs j
  -- a refused entry leaves the places and the length as they were
  pub named_refused : (xs : List (Option T)) (len i : ℕ) (x : T) (f : PlaceFault) → entry_at xs len i ≡ Err f → (places_named xs len i x ≡ xs) × (length_named xs len i ≡ len)
  -- the length after an entry at a named index is never below the one before, whatever the answer
  pub named_length : (xs : List (Option T)) (len i : ℕ) → len ≤ length_named xs len i
  -- the length after a new record is never below the one before, whatever the answer
  pub new_length : (xs : List (Option T)) (len : ℕ) → len ≤ length_entered xs len
  -- the place of a new record is vacant and below the length, or it is the one at the length
  pub vacant_there : (xs : List (Option T)) (len i : ℕ) → first_vacant xs len ≡ Some i → ((i < len) × (at xs i ≡ None)) ⊎ (i ≡ len)
  -- the place of a new record is within the capacity
  pub vacant_within : (xs : List (Option T)) (len i : ℕ) → first_vacant xs len ≡ Some i → i < length xs
  -- every place below the place of a new record is occupied: it is the lowest
  pub vacant_least : (xs : List (Option T)) (len i j : ℕ) → first_vacant xs len ≡ Some i → j < i → is_some (at xs j) ≡ true
  -- where a new record has no place, the length is at or above the capacity, and every place is occupied
  pub vacant_nowhere : (xs : List (Option T)) (len : ℕ) → first_vacant xs len ≡ None → (length xs ≤ len) × ((j : ℕ) → j < length xs → is_some (at xs j) ≡ true)
  -- after a new record is entered, its place holds it
  pub new_holds : (xs : List (Option T)) (len i : ℕ) (x : T) → first_vacant xs len ≡ Some i → at (places_entered xs len x) i ≡ Some x
  -- after a new record is entered, every other place is as before
  pub new_others : (xs : List (Option T)) (len i j : ℕ) (x : T) → first_vacant xs len ≡ Some i → j ≢ i → at (places_entered xs len x) j ≡ at xs j
  -- a new record that finds the table full leaves the places and the length as they were
  pub new_refused : (xs : List (Option T)) (len : ℕ) (x : T) → first_vacant xs len ≡ None → (places_entered xs len x ≡ xs) × (length_entered xs len ≡ len)
  -- where the length counts every place ever used, a new record overwrites nothing
  pub new_vacant : (xs : List (Option T)) (len i : ℕ) → Counted xs len → first_vacant xs len ≡ Some i → at xs i ≡ None
  -- the length goes on counting every place ever used: after an entry at a named index
  pub named_counted : (xs : List (Option T)) (len i : ℕ) (x : T) → Counted xs len → Counted (places_named xs len i x) (length_named xs len i)
  -- and after a new record
  pub new_counted : (xs : List (Option T)) (len : ℕ) (x : T) → Counted xs len → Counted (places_entered xs len x) (length_entered xs len)
  -- and after a place is vacated
  pub taken_counted : (xs : List (Option T)) (len i : ℕ) → Counted xs len → Counted (slice_set xs i None) len
  -- and after an occupied place is filled anew
  pub put_counted : (xs : List (Option T)) (len i : ℕ) (o : Option T) → is_some (at xs i) ≡ true → Counted xs len → Counted (slice_set xs i o) len
  -- the occupied place that is found is at or above the start
  pub occupied_above : (xs : List (Option T)) (n k : ℕ) → occupied_from xs n ≡ Some k → n ≤ k
  -- it is occupied
  pub occupied_there : (xs : List (Option T)) (n k : ℕ) → occupied_from xs n ≡ Some k → is_some (at xs k) ≡ true
  -- no place between the start and it is occupied
  pub occupied_least : (xs : List (Option T)) (n k j : ℕ) → occupied_from xs n ≡ Some k → n ≤ j → j < k → at xs j ≡ None
  -- where none is found, no place at or above the start is occupied
  pub occupied_nowhere : (xs : List (Option T)) (n j : ℕ) → occupied_from xs n ≡ None → n ≤ j → at xs j ≡ None
