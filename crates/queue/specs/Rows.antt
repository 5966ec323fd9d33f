-- What a row of queues stands for: a list of items for each place.
use Rattle.std.specs.Prelude.{ℕ, ◌/◌, cond, List, length, Some, None, Option, nat_lt}
use Rattle.queue.specs.Marks.{held_in, usable}
use Rattle.queue.specs.Ring.{part}
use Rattle.queue.specs.declared.Mark.{Mark}
use Rattle.queue.specs.declared.Queues.{Queues}
use Rattle.std.specs.List.{slice_get}

-- each place's share of the cells
abbrev pub share : {A : Type 0} → List A → List Mark → ℕ
share cells marks = length cells / length marks

-- the mark of a place, if it has one and that fits
abbrev pub seat : ℕ → List Mark → ℕ → Option Mark
seat width marks p = usable width (slice_get marks p)

-- the items of each place
abbrev pub rows : {A : Type 0} → List A → List Mark → ℕ → List A
rows cells marks p = held_in (part (share cells marks) cells p) (seat (share cells marks) marks p)

-- the room of a place with that mark: its share, or none where there is no mark
abbrev pub room_in : ℕ → Option Mark → ℕ
room_in width None = 0
room_in width (Some m) = width

-- the room of each place
abbrev pub rooms : {A : Type 0} → List A → List Mark → ℕ → ℕ
rooms cells marks p = room_in (share cells marks) (seat (share cells marks) marks p)

-- the items that wait at each place of a row, the first to leave first
abbrev pub items_at : {A : Type 0} → Queues A → ℕ → List A
items_at q = rows q.cells.now q.marks.now

-- how many items each place of a row can hold
abbrev pub room_at : {A : Type 0} → Queues A → ℕ → ℕ
room_at q = rooms q.cells.now q.marks.now

-- the room that a new row gives: each place below the number of marks has the same share of the cells, and places past that have none
abbrev pub given_room : {A : Type 0} → List A → List Mark → ℕ → ℕ
given_room cells marks p = cond (nat_lt p (length marks)) (share cells marks) 0
