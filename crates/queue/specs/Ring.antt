-- What a ring of cells stands for.
use Rattle.std.specs.Prelude.{ℕ, ◌+◌, ◌-◌, ◌*◌, cond, List, [], ◌∷◌, ◌++◌, length, take, drop, Some, None, Option, ◌==◌, nat_lt}
use Rattle.std.specs.List.{between}

-- the cells from `head` on, and then round to those before it
abbrev pub turned : {A : Type 0} → List A → ℕ → List A
turned cells head = drop head cells ++ take head cells

-- the first `count` of them: the items in their order
unfoldable pub ring : {A : Type 0} → List A → ℕ → ℕ → List A
ring cells head count = take count (turned cells head)

-- the cell that lies `n` steps after `head` in a ring of `room` cells
abbrev pub stepped : ℕ → ℕ → ℕ → ℕ
stepped room head n = cond (nat_lt n (room - head)) (head + n) (n - (room - head))

-- the first of a list, if it has one
abbrev pub front : {A : Type 0} → List A → Option A
front [] = None
front (x ∷ xs) = Some x

-- a list without its first
abbrev pub others : {A : Type 0} → List A → List A
others [] = []
others (x ∷ xs) = xs

-- one more at the end where there are fewer than `room`, and else no change
abbrev pub within_room : {A : Type 0} → ℕ → A → List A → List A
within_room room x xs = cond (nat_lt (length xs) room) (xs ++ x ∷ []) xs

-- the cells of one place of several, each with `width` cells
abbrev pub part : {A : Type 0} → ℕ → List A → ℕ → List A
part width cells p = between (p * width) (p * width + width) cells

-- what each place has, with what is at `place` changed by `f`
abbrev pub at_place : {X : Type 0} → ℕ → (X → X) → (ℕ → X) → ℕ → X
at_place place f xs p = cond (p == place) (f (xs p)) (xs p)
