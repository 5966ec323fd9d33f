-- What a call is said to have done is what its answer and the lines show.
use Rattle.std.specs.Prelude.{◌≡◌, ℕ, cond, List, [], ◌∷◌, ◌==◌}
use Rattle.wire.specs.Line.{Line, with_event, flushed as flushed_line, opened as opened_line}
use Rattle.queue.specs.Ring.{others}
use Rattle.backend.specs.World.{Terms, World}
use Rattle.backend.specs.Acts.{Act, entered, ended, took, refused, received, flushed, opened, Deed}
use Rattle.backend.specs.Perform.{Call, perform}
use Rattle.accounts.specs.Shown.{entries_shown, ends_shown}
use Rattle.accounts.specs.Accounts.{entries_in, ends_in}

-- what was done, without to whom
abbrev pub acts_in : List Deed → List Act
acts_in [] = []
acts_in (d ∷ ds) = d.act ∷ acts_in ds

-- the line without its first request
abbrev pub shortened : Line → Line
shortened l = record { requests = others l.requests; broken = l.broken; events = l.events; allowance = l.allowance; limit = l.limit }

-- what an act does to the line of its client
abbrev pub done_to : Act → Line → Line
done_to (entered x) l = l
done_to (ended e) l = l
done_to (took e) l = with_event e l
done_to (refused e) l = l
done_to received l = shortened l
done_to flushed l = flushed_line l
done_to opened l = opened_line l

-- the line of a place after all that was done at it
abbrev pub replayed : ℕ → List Deed → Line → Line
replayed p [] l = l
replayed p (d ∷ ds) l = cond (p == d.client.place) (done_to d.act (replayed p ds l)) (replayed p ds l)

-- the answer shows exactly the entries and ends among the deeds, and the deeds done to the lines before give the lines after
pub record Tied (t : Terms) (c : Call) (w : World) : Type 0 where
  pub entries_are_shown : entries_in (acts_in (perform t c w).run.deeds) ≡ entries_shown (perform t c w).answer
  pub ends_are_shown : ends_in (acts_in (perform t c w).run.deeds) ≡ ends_shown (perform t c w).answer
  pub lines_shown : (p : ℕ) → (perform t c w).run.world.lines p ≡ replayed p (perform t c w).run.deeds (w.lines p)
