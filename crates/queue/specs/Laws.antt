-- What holds of every queue, in words of its list of items.
use Rattle.std.specs.Prelude.{◌≡◌, ℕ, zero, suc, ◌<◌, ◌≤◌, List, length, Some}
use Rattle.queue.specs.Ring.{front, others, within_room}
use Rattle.std.specs.List.{slice_get}

-- what is left after `n` items have been popped
abbrev pub popped : {A : Type 0} → ℕ → List A → List A
popped zero xs = xs
popped (suc n) xs = popped n (others xs)

-- items leave in the order in which they came, a full queue refuses, and a push moves no item that waits
pub record QueueLaws (T : Type 0) : Type 0 where
  -- first in, first out: an item pushed where there is room is the next to leave once all that were there before it have left
  pub in_turn : (room : ℕ) (x : T) (xs : List T) → length xs < room → front (popped (length xs) (within_room room x xs)) ≡ Some x
  -- the item that has `i` others before it is the next to leave after `i` pops
  pub in_order : (i : ℕ) (xs : List T) → front (popped i xs) ≡ slice_get xs i
  -- a push on a full queue changes nothing
  pub full : (room : ℕ) (x : T) (xs : List T) → room ≤ length xs → within_room room x xs ≡ xs
  -- a push leaves every item that waits at its index
  pub kept : (room : ℕ) (x : T) (xs : List T) (i : ℕ) → i < length xs → slice_get (within_room room x xs) i ≡ slice_get xs i
