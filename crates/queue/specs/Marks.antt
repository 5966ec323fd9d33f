-- Where the items of a queue lie.
use Rattle.std.specs.Prelude.{ℕ, ◌<◌, ◌≤◌, Bool, cond, ◌&&◌, ◌||◌, List, [], Some, None, Option, ◌==◌, nat_le, nat_lt}
use Rattle.queue.specs.Ring.{ring}
use Rattle.queue.specs.declared.Mark.{Mark}

-- the mark of a queue with no items
abbrev pub fresh : Mark
fresh = record { head = 0; count = 0 }

-- a mark fits `width` cells: it counts no more items than that, and if there are any cells its head is one of them
abbrev pub Sound : ℕ → Mark → Type 0
Sound width m = (0 < width → m.head < width) × (m.count ≤ width)

-- the same as a test
abbrev pub sound : ℕ → Mark → Bool
sound width m = nat_le m.count width && (nat_lt m.head width || width == 0)

-- the mark, if it fits
abbrev pub usable : ℕ → Option Mark → Option Mark
usable width None = None
usable width (Some m) = cond (sound width m) (Some m) None

-- the items that the cells hold under a mark
abbrev pub marked : {A : Type 0} → List A → Mark → List A
marked cells m = ring cells m.head m.count

-- the same where there may be no mark, and then no items
abbrev pub held_in : {A : Type 0} → List A → Option Mark → List A
held_in cells None = []
held_in cells (Some m) = marked cells m
