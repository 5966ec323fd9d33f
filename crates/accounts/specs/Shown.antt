-- What calls and answers show: the objects entered, the ends told, the tickets handed out and settled.
use Rattle.std.specs.Prelude.{List, [], ◌∷◌, ◌++◌, Some, None, Ok, Err, Option, Result}
use Rattle.backend.specs.declared.ids.ObjectId.{ObjectId}
use Rattle.backend.specs.declared.client.End.{End}
use Rattle.backend.specs.declared.ticket.Bound.{Bound}
use Rattle.backend.specs.declared.ticket.Origin.{Origin}
use Rattle.backend.specs.declared.ticket.Outstanding.{Outstanding}
use Rattle.backend.specs.declared.ticket.Outstanding.TheVariants as out
use Rattle.backend.specs.declared.answers.StepAnswer.{StepAnswer}
use Rattle.backend.specs.declared.answers.StepAnswer.TheVariants.{Idle, Closed, Synced, Registered, Plain, Making, Failed}
use Rattle.backend.specs.declared.answers.SendAnswer.{SendAnswer}
use Rattle.backend.specs.declared.answers.SendAnswer.TheVariants.{Sent, Lost, NotSent}
use Rattle.backend.specs.declared.answers.TidyAnswer.{TidyAnswer}
use Rattle.backend.specs.declared.answers.TidyAnswer.TheVariants.{Reason, Ended, Vacated, Nothing}
use Rattle.backend.specs.Calls.{display_id}
use Rattle.backend.specs.Perform.{
  Call,
  admit,
  step,
  settle_plain,
  settle_making,
  create,
  destroy,
  send,
  look,
  set,
  find,
  next,
  post,
  kill,
  add,
  disable,
  remove,
  flush,
  tidy,
  Answer,
  admitted,
  stepped,
  settled_plain,
  settled_making,
  created,
  destroyed,
  sent,
  looked,
  changed,
  found,
  found_next,
  posted,
  killed,
  added,
  disabled,
  removed,
  flushed,
  tidied,
}
use Rattle.accounts.specs.Histories.{History}

-- what is shown where there is an answer, and nothing where the call was refused
abbrev pub of_ok : {A E X : Type 0} → (A → List X) → Result A E → List X
of_ok f (Ok a) = f a
of_ok f (Err e) = []

-- what is there, as a list
abbrev pub one : {X : Type 0} → Option X → List X
one None = []
one (Some x) = x ∷ []

-- Entries: the display of an admission, a created object, and each new id that a step entered, also where a later argument failed.

-- what a step's answer shows as entered
abbrev pub step_entries : StepAnswer → List ObjectId
step_entries Idle = []
step_entries Closed = []
step_entries (Synced e) = e.object ∷ []
step_entries (Registered x) = x ∷ []
step_entries (Plain t) = []
step_entries (Making t) = t.request.child ∷ []
step_entries (Failed e) = one e.entered

-- what an answer shows as entered
abbrev pub entries_shown : Answer → List ObjectId
entries_shown (admitted r) = of_ok (λ c. display_id c ∷ []) r
entries_shown (stepped r) = of_ok step_entries r
entries_shown (settled_plain r) = []
entries_shown (settled_making r) = []
entries_shown (created r) = of_ok (λ x. x ∷ []) r
entries_shown (destroyed r) = []
entries_shown (sent r) = []
entries_shown (looked r) = []
entries_shown (changed r) = []
entries_shown (found r) = []
entries_shown (found_next r) = []
entries_shown (posted r) = []
entries_shown (killed r) = []
entries_shown (added r) = []
entries_shown (disabled r) = []
entries_shown (removed r) = []
entries_shown (flushed r) = []
entries_shown (tidied a) = []

-- Ends: of a sync's callback, of a destructor's sender, of an object that was destroyed or tidied away.

-- the ends that a step's answer tells
abbrev pub step_ends : StepAnswer → List End
step_ends Idle = []
step_ends Closed = []
step_ends (Synced e) = e ∷ []
step_ends (Registered x) = []
step_ends (Plain t) = []
step_ends (Making t) = []
step_ends (Failed e) = []

-- the ends that the answer of a send tells
abbrev pub send_ends : SendAnswer → List End
send_ends (Sent e) = one e
send_ends (Lost e) = one e
send_ends NotSent = []

-- the ends that the answer of a tidy tells
abbrev pub tidy_ends : TidyAnswer → List End
tidy_ends (Reason r) = []
tidy_ends (Ended e) = e ∷ []
tidy_ends (Vacated c) = []
tidy_ends Nothing = []

-- the ends that an answer tells
abbrev pub ends_shown : Answer → List End
ends_shown (admitted r) = []
ends_shown (stepped r) = of_ok step_ends r
ends_shown (settled_plain r) = of_ok one r
ends_shown (settled_making r) = of_ok (λ s. one s.ended) r
ends_shown (created r) = []
ends_shown (destroyed r) = of_ok (λ e. e ∷ []) r
ends_shown (sent r) = of_ok send_ends r
ends_shown (looked r) = []
ends_shown (changed r) = []
ends_shown (found r) = []
ends_shown (found_next r) = []
ends_shown (posted r) = []
ends_shown (killed r) = []
ends_shown (added r) = []
ends_shown (disabled r) = []
ends_shown (removed r) = []
ends_shown (flushed r) = []
ends_shown (tidied a) = tidy_ends a

-- Tickets: handed out by a step, settled by a settle that is not refused.

-- a ticket, by what it says
pub data Ticket : Type 0 where
  plain : Origin → Ticket
  making : Origin → ObjectId → Option Bound → Ticket

-- the ticket that an engine has outstanding
abbrev pub ticket_of : Outstanding → Option Ticket
ticket_of out.Nothing = None
ticket_of (out.Plain o) = Some (plain o)
ticket_of (out.Making m) = Some (making m.origin m.child m.bound)

-- the object that a ticket makes
abbrev pub child_of : Option Ticket → Option ObjectId
child_of None = None
child_of (Some (plain o)) = None
child_of (Some (making o child bound)) = Some child

-- what is on paper of a ticket: that it was handed out, or that it was settled
pub data Paper : Type 0 where
  handed : Ticket → Paper
  settled : Ticket → Paper

-- the ticket that a step's answer hands out
abbrev pub step_papers : StepAnswer → List Paper
step_papers Idle = []
step_papers Closed = []
step_papers (Synced e) = []
step_papers (Registered x) = []
step_papers (Plain t) = handed (plain t.request) ∷ []
step_papers (Making t) = handed (making t.request.origin t.request.child t.request.bound) ∷ []
step_papers (Failed e) = []

-- the ticket that a settle was given
abbrev pub ticket_given : Call → Option Ticket
ticket_given (admit d) = None
ticket_given (step c b) = None
ticket_given (settle_plain t) = Some (plain t.request)
ticket_given (settle_making t d) = Some (making t.request.origin t.request.child t.request.bound)
ticket_given (create c row version d) = None
ticket_given (destroy x) = None
ticket_given (send x opcode as') = None
ticket_given (look x) = None
ticket_given (set x d) = None
ticket_given (find c id) = None
ticket_given (next c id) = None
ticket_given (post x code text) = None
ticket_given (kill c r) = None
ticket_given (add row version handler) = None
ticket_given (disable i) = None
ticket_given (remove i) = None
ticket_given (flush c) = None
ticket_given tidy = None

-- the ticket that was given, settled
abbrev settled_if : {A : Type 0} → Option Ticket → A → List Paper
settled_if None a = []
settled_if (Some t) a = settled t ∷ []

-- what a call and its answer show of tickets
abbrev pub papers_shown : Option Ticket → Answer → List Paper
papers_shown t (admitted r) = []
papers_shown t (stepped r) = of_ok step_papers r
papers_shown t (settled_plain r) = of_ok (settled_if t) r
papers_shown t (settled_making r) = of_ok (settled_if t) r
papers_shown t (created r) = []
papers_shown t (destroyed r) = []
papers_shown t (sent r) = []
papers_shown t (looked r) = []
papers_shown t (changed r) = []
papers_shown t (found r) = []
papers_shown t (found_next r) = []
papers_shown t (posted r) = []
papers_shown t (killed r) = []
papers_shown t (added r) = []
papers_shown t (disabled r) = []
papers_shown t (removed r) = []
papers_shown t (flushed r) = []
papers_shown t (tidied a) = []

-- Over a history, the latest first.

-- all objects that a history entered
abbrev pub entries : History → List ObjectId
entries [] = []
entries (u ∷ h) = entries_shown u.answer ++ entries h

-- the handles of ends
abbrev pub objects_of : List End → List ObjectId
objects_of [] = []
objects_of (e ∷ es) = e.object ∷ objects_of es

-- the handles whose end was told
abbrev pub ends : History → List ObjectId
ends [] = []
ends (u ∷ h) = objects_of (ends_shown u.answer) ++ ends h

-- all that a history has on paper of tickets
abbrev pub papers : History → List Paper
papers [] = []
papers (u ∷ h) = papers_shown (ticket_given u.call) u.answer ++ papers h
