-- A table with its own places: the definitions over a list and a length, on both at once.
use Rattle.std.specs.Prelude.{ℕ, cond, replicate, is_some, None, Option, slice_set}
use Rattle.places.specs.declared.table.Table.{Table}
use Rattle.places.specs.Places.{at, first_vacant, places_new, length_new}
use Rattle.places.specs.Laws.{places_named, length_named}

-- a table of n places where none was ever used
abbrev pub empty_table : {T : Type 0} → (n : ℕ) → Table T n
empty_table n = record { places = replicate n None; len = 0 }

module _ {T : Type 0} {n : ℕ} where
  -- the table with another content of an occupied place
  abbrev pub replaced : Table T n → ℕ → Option T → Table T n
  replaced t i o = cond (is_some (at t.places i)) (record { places = slice_set t.places i o; len = t.len }) t

  -- the table after an entry at a named index, whatever the answer
  abbrev pub entered_at : Table T n → ℕ → T → Table T n
  entered_at t i x = record { places = places_named t.places t.len i x; len = length_named t.places t.len i }

  -- the table after a new record, whose place is the first argument
  abbrev pub entered_in : Option ℕ → Table T n → T → Table T n
  entered_in r t x = record { places = places_new r t.places x; len = length_new r t.len }

  -- the table after a new record is entered, or finds it full
  abbrev pub entered_new : Table T n → T → Table T n
  entered_new t x = entered_in (first_vacant t.places t.len) t x
