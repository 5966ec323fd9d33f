-- The policy that goes by a table.
use Rattle.std.specs.Prelude.{ℕ, Bool, true, false, cond, ◌&&◌, List, [], ◌∷◌, ◌==◌}
use Rattle.backend.specs.declared.policy.Pair.{Pair}

-- the pair is of this data and this handler
abbrev pub is_pair : Pair → ℕ → ℕ → Bool
is_pair p d h = p.«data» == d && p.handler == h

-- the pair is one of the table
abbrev pub paired : List Pair → ℕ → ℕ → Bool
paired [] d h = false
paired (p ∷ ps) d h = cond (is_pair p d h) true (paired ps d h)
