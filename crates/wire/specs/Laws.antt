-- What the calls of a wire do to a line, one after the other.
use Rattle.std.specs.Prelude.{◌≡◌, ℕ, ◌-◌, ◌<◌, true, List, [], ◌∷◌, ◌++◌, length, ◌≢◌, Ok, Err}
use Rattle.protocol.specs.declared.argument.ArgumentType.{ArgumentType}
use Rattle.message.specs.Events.{EventModel, sendable}
use Rattle.wire.specs.declared.answers.WriteError.TheVariants.{Refused, BadSize}
use Rattle.wire.specs.Line.{Line, read_answer, read_after, write_answer, written, carried, flushed, opened}

pub record LineLaws : Type 0 where
  -- an event that is taken is the last that shows, and the one before it shows as before
  pub taken_shows : (e : EventModel) (l : Line) → write_answer e l ≡ Ok tt → (written e l).events ≡ l.events ++ e ∷ []
  pub taken_lowers : (e : EventModel) (l : Line) → write_answer e l ≡ Ok tt → (written e l).allowance ≡ l.allowance - 1
  -- a write is refused exactly at allowance 0, and changes nothing unless it is taken
  pub refused_at_0 : (e : EventModel) (l : Line) → l.allowance ≡ 0 → write_answer e l ≡ Err Refused
  pub refused_only_at_0 : (e : EventModel) (l : Line) → write_answer e l ≡ Err Refused → l.allowance ≡ 0
  pub refused_changes_nothing : (e : EventModel) (l : Line) → write_answer e l ≡ Err Refused → written e l ≡ l
  pub too_large_changes_nothing : (e : EventModel) (l : Line) → write_answer e l ≡ Err BadSize → written e l ≡ l
  pub sendable_taken : (e : EventModel) (l : Line) → 0 < l.allowance → sendable e ≡ true → write_answer e l ≡ Ok tt
  -- written and then flushed: one more is carried, and the whole limit is there again
  pub taken_carried : (e : EventModel) (l : Line) → write_answer e l ≡ Ok tt → carried (written e l) ≡ length (l.events ++ e ∷ [])
  pub written_flushed : (e : EventModel) (l : Line) → flushed (written e l) ≡ flushed l
  pub flushed_empty : (l : Line) → carried (flushed l) ≡ 0
  pub flushed_allowance : (l : Line) → (flushed l).allowance ≡ l.limit
  pub opened_empty : (l : Line) → ((opened l).requests ≡ []) × ((opened l).events ≡ []) × ((opened l).allowance ≡ l.limit)
  -- no call changes the limit
  pub limit_read : (size : ℕ) (signature : List ArgumentType) (l : Line) → (read_after size signature l).limit ≡ l.limit
  pub limit_written : (e : EventModel) (l : Line) → (written e l).limit ≡ l.limit
  pub limit_flushed : (l : Line) → (flushed l).limit ≡ l.limit
  pub limit_opened : (l : Line) → (opened l).limit ≡ l.limit
  -- a read at an error leaves the line
  pub unread_stays : (size : ℕ) (signature : List ArgumentType) (l : Line) → (read_answer size signature l ≢ Ok tt) → read_after size signature l ≡ l
