-- The rules of a table of places. A table is a list of places, each vacant or with a record, and a length,
-- the count of places ever used; its capacity is the length of the list.
use Rattle.std.specs.Prelude.{ℕ, ◌+◌, cond, List, [], ◌∷◌, length, take, drop, is_some, Some, None, Ok, Err, Option, Result, nat_lt, slice_index_or, slice_set}
use Rattle.places.specs.declared.PlaceFault.{PlaceFault}
use Rattle.places.specs.declared.PlaceFault.TheVariants.{Beyond, Taken, Full}

-- the lowest vacant place of a list whose first place has the number n
abbrev pub lowest : {T : Type 0} → ℕ → List (Option T) → Option ℕ
lowest n [] = None
lowest n (None ∷ xs) = Some n
lowest n (Some x ∷ xs) = lowest (n + 1) xs

-- the first, or the second where there is no first
abbrev pub or_else : {T : Type 0} → Option T → Option T → Option T
or_else None y = y
or_else (Some x) y = Some x

-- where a new record goes: the lowest vacant place below the length, else the place at the length, and none at the capacity
abbrev pub first_vacant : {T : Type 0} → List (Option T) → ℕ → Option ℕ
first_vacant xs len = or_else (lowest 0 (take len xs)) (cond (nat_lt len (length xs)) (Some len) None)

-- what a place holds; past the capacity nothing
abbrev pub at : {T : Type 0} → List (Option T) → ℕ → Option T
at xs i = slice_index_or xs i None

-- the answer of an entry at the index i: beyond the length, at an occupied place, at the capacity, or done
abbrev pub entry_at : {T : Type 0} → List (Option T) → ℕ → ℕ → Result (Unit {0}) PlaceFault
entry_at xs len i =
    cond (nat_lt len i) (Err Beyond) (cond (is_some (at xs i)) (Err Taken) (cond (nat_lt i (length xs)) (Ok tt) (Err Full)))

-- the length after an entry at i
abbrev pub grown : ℕ → ℕ → ℕ
grown len i = cond (nat_lt i len) len (i + 1)

-- the places after an entry at i that answered r
abbrev pub places_after : {T E : Type 0} → Result (Unit {0}) E → List (Option T) → ℕ → T → List (Option T)
places_after (Ok u) xs i x = slice_set xs i (Some x)
places_after (Err e) xs i x = xs

-- the length after an entry at i that answered r
abbrev pub length_after : {E : Type 0} → Result (Unit {0}) E → ℕ → ℕ → ℕ
length_after (Ok u) len i = grown len i
length_after (Err e) len i = len

-- the places after a new record, whose place is the first argument
abbrev pub places_new : {T : Type 0} → Option ℕ → List (Option T) → T → List (Option T)
places_new (Some i) xs x = slice_set xs i (Some x)
places_new None xs x = xs

-- the length after a new record, whose place is the first argument
abbrev pub length_new : Option ℕ → ℕ → ℕ
length_new (Some i) len = grown len i
length_new None len = len

-- the lowest occupied place of a list whose first place has the number n
abbrev pub occupied : {T : Type 0} → ℕ → List (Option T) → Option ℕ
occupied n [] = None
occupied n (None ∷ xs) = occupied (n + 1) xs
occupied n (Some x ∷ xs) = Some n

-- the lowest occupied place at or above n
abbrev pub occupied_from : {T : Type 0} → List (Option T) → ℕ → Option ℕ
occupied_from xs n = occupied n (drop n xs)
