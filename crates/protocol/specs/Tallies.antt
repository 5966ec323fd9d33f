-- Tests over lists.
use Rattle.std.specs.Prelude.{ℕ, ◌+◌, Bool, cond, List, [], ◌∷◌}
-- every item passes the test f
pub use Rattle.std.specs.List.{list_all as all}

-- how many items pass the test f
abbrev pub count : {X : Type 0} → (X → Bool) → List X → ℕ
count f [] = 0
count f (x ∷ xs) = cond (f x) 1 0 + count f xs
