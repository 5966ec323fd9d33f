-- What a reader has still to give.
use Rattle.std.specs.Prelude.{◌≡◌, ℕ, ◌≤◌, List, map, length, drop, None, Option}
use Rattle.std.specs.Iterator.{YieldsFirstBy}
use Rattle.std.specs.List.{slice_get}
use Rattle.std.specs.Option.{option_map}
use Rattle.std.specs.Borrow.{Bor}
use Rattle.protocol.specs.declared.argument.Argument.{Argument}
use Rattle.message.specs.declared.reader.Reader.{Reader}
use Rattle.message.specs.Meaning.{map_bytes, meaning, said}

-- the meanings of the arguments from the reader's index on
abbrev pub left : Reader → List (Argument ℕ (List ℕ))
left r = map (meaning r.body.now) (drop r.index (said r.message))

-- what was read: its texts and arrays are borrowed from the body
abbrev pub borrowed : Argument ℕ (Bor (List ℕ)) → Argument ℕ (List ℕ)
borrowed = map_bytes (λ r. r.now)

-- a reader gives every argument in order, and then none: each call takes the first of what is left, so the call after n others
-- gives the argument n, and after as many calls as there are arguments there is none
pub record ReaderLaws : Type 0 where
  pub takes_first : (before after : Reader) (r : Option (Argument ℕ (Bor (List ℕ)))) → YieldsFirstBy borrowed left before r after
      → (option_map borrowed r ≡ slice_get (left before) 0) × (left after ≡ drop 1 (left before))
  pub in_order : (vs : List (Argument ℕ (List ℕ))) (n : ℕ) → slice_get (drop n vs) 0 ≡ slice_get vs n
  pub ends : (vs : List (Argument ℕ (List ℕ))) (n : ℕ) → length vs ≤ n → slice_get (drop n vs) 0 ≡ None
