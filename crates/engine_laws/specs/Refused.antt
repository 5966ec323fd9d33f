-- A refused call changes nothing.
use Rattle.std.specs.Prelude.{◌≡◌, Some, None, Ok, Err, Option, Result}
use Rattle.protocol.specs.declared.refusal.Refusal.{Refusal}
use Rattle.protocol.specs.declared.refusal.Refusal.TheVariants.{WrongTicket}
use Rattle.backend.specs.declared.ids.ClientId.{ClientId}
use Rattle.backend.specs.World.{Terms, World}
use Rattle.backend.specs.Acts.{from}
use Rattle.backend.specs.Requests.{Buffers}
use Rattle.backend.specs.Perform.{Call, step, Answer, admitted, stepped, settled_plain, settled_making, created, destroyed, sent, looked, changed, found, found_next, posted, killed, added, disabled, removed, flushed, tidied, perform, buffers_after}

-- the error of an answer, if it is one
abbrev pub error_of : {A E : Type 0} → Result A E → Option E
error_of (Ok a) = None
error_of (Err e) = Some e

-- a settle is refused by handing the ticket back
abbrev pub handed_back : {A T : Type 0} → Result A T → Option Refusal
handed_back (Ok a) = None
handed_back (Err t) = Some WrongTicket

-- the refusal that an answer is, or none where the call was not refused; a tidy never is
abbrev pub refusal_of : Answer → Option Refusal
refusal_of (admitted r) = error_of r
refusal_of (stepped r) = error_of r
refusal_of (settled_plain r) = handed_back r
refusal_of (settled_making r) = handed_back r
refusal_of (created r) = error_of r
refusal_of (destroyed r) = error_of r
refusal_of (sent r) = error_of r
refusal_of (looked r) = error_of r
refusal_of (changed r) = error_of r
refusal_of (found r) = error_of r
refusal_of (found_next r) = error_of r
refusal_of (posted r) = error_of r
refusal_of (killed r) = error_of r
refusal_of (added r) = error_of r
refusal_of (disabled r) = error_of r
refusal_of (removed r) = error_of r
refusal_of (flushed r) = error_of r
refusal_of (tidied a) = None

-- a refusal leaves everything as it was
pub record RefusalsChangeNothing : Type 0 where
  -- A call that is refused, whichever of the eighteen it is and whatever the refusal, leaves the engine and every line as they were, and
  -- does nothing to any client.
  pub world : (t : Terms) (c : Call) (w : World) (e : Refusal) → refusal_of (perform t c w).answer ≡ Some e → (perform t c w).run ≡ from w
  -- A step that is refused also leaves the message, the handles, the body and the text that it was lent.
  pub buffers : (t : Terms) (c : ClientId) (b : Buffers) (w : World) (e : Refusal) → refusal_of (perform t (step c b) w).answer ≡ Some e → buffers_after t c b w ≡ b
