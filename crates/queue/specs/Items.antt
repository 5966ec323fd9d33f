-- What a queue stands for: the list of its items.
use Rattle.std.specs.Prelude.{ℕ, List, length}
use Rattle.queue.specs.Marks.{marked}
use Rattle.queue.specs.declared.Queue.{Queue}

-- the items that wait, the first to leave first
abbrev pub items : {A : Type 0} → Queue A → List A
items q = marked q.cells.now q.mark

-- how many items it can hold
abbrev pub room : {A : Type 0} → Queue A → ℕ
room q = length q.cells.now
