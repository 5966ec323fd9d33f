-- A new row of queues: no items at any place, and the room that each is given.
use Rattle.std.proofs.Common.{◌≡◌, ℕ, ◌<◌, ◌≤◌, List, [], length, replicate, Some, None, arith}
use Rattle.queue.proofs.Rings.{ring_none}
use Rattle.queue.proofs.Shares.{fresh_fits}
use Rattle.queue.specs.Marks.{fresh}
use Rattle.queue.specs.Ring.{part}
use Rattle.queue.specs.Rows.{share, seat, rows, rooms, given_room}
use Rattle.queue.specs.declared.Mark.{Mark}
use Rattle.std.proofs.lemmas.Option.{slice_get_past, slice_get-get_or}
use Rattle.std.proofs.lemmas.Bool.{cases_lt}
use lib.ListN.{length-replicate, get_or-replicate}

module _ (w n p : ℕ) where
  seat_known : p < n → seat w (replicate n fresh) p ≡ Some fresh
  seat_known low = grind (arith, slice_get-get_or (replicate n fresh) p fresh, length-replicate n fresh, get_or-replicate n p fresh fresh low, fresh_fits w)

  seat_unknown : n ≤ p → seat w (replicate n fresh) p ≡ None
  seat_unknown high = grind (arith, slice_get_past (replicate n fresh) p, length-replicate n fresh)

-- the marks as they were lent, and as they are after each was reset
module _ {A : Type 0} (cells : List A) (marks after : List Mark) (is : after ≡ replicate (length marks) fresh) (p : ℕ) where
  pub no_rows : rows cells after p ≡ []
  no_rows = grind (arith, is, seat_known (share cells after) (length marks) p, seat_unknown (share cells after) (length marks) p, ring_none (part (share cells after) cells p) 0, cases_lt p (length marks))

  pub first_rooms : rooms cells after p ≡ given_room cells marks p
  first_rooms = grind (arith, is, length-replicate (length marks) fresh, seat_known (share cells marks) (length marks) p, seat_unknown (share cells marks) (length marks) p, cases_lt p (length marks))
