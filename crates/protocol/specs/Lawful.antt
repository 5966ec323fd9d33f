-- The laws of a catalogue, in words. A catalogue means a list of rows.
use Rattle.std.specs.Prelude.{◌≡◌, ℕ, ◌<◌, ◌≤◌, true, ◌≢◌, List, length, take, is_some, Some}
use Rattle.std.specs.List.{slice_get}
use Rattle.protocol.specs.Kinds.{is_object, is_new_id}
use Rattle.protocol.specs.Tallies.{count}
use Rattle.protocol.specs.Model.{MessageModel, RowModel}
use Rattle.protocol.specs.CoreRows.{core_rows}

-- a name has 1 to 32 bytes, none of them zero
pub record Named (bytes : List ℕ) : Type 0 where
  pub something : 0 < length bytes
  pub short : length bytes ≤ 32
  pub no_zero : (i b : ℕ) → slice_get bytes i ≡ Some b → 0 < b

-- a message of a catalogue of n rows: a name, at most 8 arguments, as many argument rows as Object arguments, at most
-- one new id, and every row number that it names is that of a row
pub record MessageLaws (n : ℕ) (m : MessageModel) : Type 0 where
  pub named : Named m.name
  pub few_kinds : length m.kinds ≤ 8
  pub objects : count is_object m.kinds ≡ length m.rows
  pub one_new_id : count is_new_id m.kinds ≤ 1
  pub rows_exist : (i row : ℕ) → slice_get m.rows i ≡ Some row → row < n
  pub child_row_exists : (row : ℕ) → m.child ≡ Some row → row < n

-- a row of a catalogue of n rows: a name, and up to 16 requests and 16 events
pub record RowLaws (n : ℕ) (r : RowModel) : Type 0 where
  pub named : Named r.name
  pub few_requests : length r.requests ≤ 16
  pub few_events : length r.events ≤ 16
  pub requests : (opcode : ℕ) (m : MessageModel) → slice_get r.requests opcode ≡ Some m → MessageLaws n m
  pub events : (opcode : ℕ) (m : MessageModel) → slice_get r.events opcode ≡ Some m → MessageLaws n m

-- every request of the row that has a new id names a child row
abbrev pub Makes : RowModel → Type 0
Makes r = (opcode : ℕ) (m : MessageModel) → slice_get r.requests opcode ≡ Some m → 0 < count is_new_id m.kinds → is_some m.child ≡ true

-- the row bears none of the names of the core
abbrev pub Fresh : RowModel → Type 0
Fresh r = (k : ℕ) (core : RowModel) → slice_get core_rows k ≡ Some core → r.name ≢ core.name

-- the laws of a list of rows: rows 0 to 3 are the core; each row keeps its laws; a request with a new id names a child
-- row, except in row 2; and no row past the core bears one of the core's names
pub record Lawful (rows : List RowModel) : Type 0 where
  pub begins : take 4 rows ≡ core_rows
  pub sound : (i : ℕ) (r : RowModel) → slice_get rows i ≡ Some r → RowLaws (length rows) r
  pub makes : (i : ℕ) (r : RowModel) → i ≢ 2 → slice_get rows i ≡ Some r → Makes r
  pub fresh : (i : ℕ) (r : RowModel) → 4 ≤ i → slice_get rows i ≡ Some r → Fresh r
