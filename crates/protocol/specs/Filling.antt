-- How a catalogue is made and filled.
use Rattle.std.specs.Prelude.{◌≡◌, ℕ, ◌-◌, ◌<◌, ◌≤◌, Bool, cond, ◌&&◌, List, ◌++◌, map, length, replicate, Ok, Err, vec_items, MatchBool, codes, Result, MatchResult, nat_le, nat_lt, slice_set}
use Rattle.protocol.specs.declared.refusal.Refusal.{Refusal}
use Rattle.protocol.specs.declared.refusal.Refusal.TheVariants.{NoRow, BreaksLaw}
use Rattle.protocol.specs.declared.filled.Filled.{Filled}
use Rattle.protocol.specs.declared.fills.CatalogueError.{CatalogueError}
use Rattle.protocol.specs.declared.fills.CatalogueError.TheVariants.{Refused, NoMemory}
use Rattle.protocol.specs.Refusals.{text_of}
use Rattle.protocol.specs.Model.{RowModel, meant_buf}
use Rattle.protocol.specs.CoreRows.{core_rows, blank}
use Rattle.protocol.specs.Lawful.{Lawful}
use Rattle.protocol.specs.RowTests.{may_stand}

-- the rows of a filled catalogue: the core, then those that it keeps
abbrev pub filled_rows : Filled → List RowModel
filled_rows f = core_rows ++ map meant_buf (vec_items f.later)

-- what an error of a new catalogue says
abbrev pub catalogue_text_of : CatalogueError → List ℕ
catalogue_text_of (Refused r) = text_of r
catalogue_text_of NoMemory = codes "out of memory"

-- a catalogue has 4 to 64 rows
abbrev pub rows_allowed : ℕ → Bool
rows_allowed n = nat_le 4 n && nat_le n 64

-- a new catalogue of n rows: the core first, the rest blank; refused where n is not allowed, and else only for want of memory
abbrev pub Made : ℕ → Result Filled CatalogueError → Type 0
Made n r =
    MatchBool (rows_allowed n)
    (MatchResult r (λ f. filled_rows f ≡ core_rows ++ replicate (n - 4) blank) (λ e. e ≡ NoMemory))
    (r ≡ Err (Refused BreaksLaw))

-- what filling answers: no such row, or a law broken (rows 0 to 3 are never filled), or done
abbrev pub fill_answer : List RowModel → ℕ → RowModel → Result (Unit {0}) Refusal
fill_answer rows number row =
    cond (nat_lt number (length rows)) (cond (nat_le 4 number && may_stand (length rows) row) (Ok tt) (Err BreaksLaw)) (Err NoRow)

-- the rows after filling; a refusal changes nothing
abbrev pub fill_after : Result (Unit {0}) Refusal → List RowModel → ℕ → RowModel → List RowModel
fill_after (Ok u) rows number row = slice_set rows number row
fill_after (Err e) rows number row = rows

-- Filling in words. Of a catalogue that keeps the laws: a number past the end is refused as no row; rows 0 to 3 are refused;
-- elsewhere a row is taken exactly when the catalogue with it keeps the laws.
pub record FillLaws : Type 0 where
  pub past_end : (rows : List RowModel) (number : ℕ) (row : RowModel) → length rows ≤ number → fill_answer rows number row ≡ Err NoRow
  pub core_kept : (rows : List RowModel) (number : ℕ) (row : RowModel) → Lawful rows → number < 4 → fill_answer rows number row ≡ Err BreaksLaw
  pub taken_lawful : (rows : List RowModel) (number : ℕ) (row : RowModel) → Lawful rows → fill_answer rows number row ≡ Ok tt → Lawful (slice_set rows number row)
  pub lawful_taken : (rows : List RowModel) (number : ℕ) (row : RowModel) → 4 ≤ number → number < length rows → Lawful (slice_set rows number row) → fill_answer rows number row ≡ Ok tt
