-- What a queue wire means.
use Rattle.std.specs.Prelude.{ℕ, ◌-◌, Bool, true, false, cond, ◌&&◌, List, [], ◌∷◌, ◌++◌, map, length, Some, None, Ok, Err, Option, Result, nat_le, nat_lt, slice_index_or}
use Rattle.protocol.specs.Kinds.{agree}
use Rattle.protocol.specs.declared.argument.ArgumentType.{ArgumentType}
use Rattle.protocol.specs.declared.refusal.Refusal.{Refusal}
use Rattle.protocol.specs.declared.refusal.Refusal.TheVariants.{NoVacancy}
use Rattle.message.specs.Events.{EventModel, event_of}
use Rattle.message.specs.Meaning.{said}
use Rattle.message.specs.declared.event.Event.{Event}
use Rattle.queue.specs.Rows.{items_at, room_at}
use Rattle.wire.specs.Line.{Line, Waiting, Content}
use Rattle.wire.specs.declared.queued.Request.{Request}
use Rattle.wire.specs.declared.queued.QueueWire.{QueueWire}

-- a request has the form of a signature where its body has at most 4,096 bytes, and its arguments are at most 8 and agree with the
-- signature in number and kind
abbrev pub well_formed : Request → List ArgumentType → Bool
well_formed r signature = nat_le (length r.body.now) 4096 && (nat_le (length (said r.message)) 8 && agree signature (said r.message))

-- what a request says under a signature
abbrev pub content : Request → List ArgumentType → Option Content
content r signature = cond (well_formed r signature) (Some (record { arguments = said r.message; body = r.body.now })) None

-- a request as it waits
abbrev pub waiting : Request → Waiting
waiting r = record { sender = r.sender; opcode = r.opcode; content = content r }

-- a line of these, with that room for events
abbrev pub lined : List Waiting → Bool → List EventModel → ℕ → Line
lined requests broken events room = record { requests = requests; broken = broken; events = events; allowance = room - length events; limit = room }

abbrev pub queued : (ℕ → List Request) → (ℕ → List Event) → (ℕ → ℕ) → List Bool → ℕ → Line
queued requests events rooms broken p = lined (map waiting (requests p)) (slice_index_or broken p false) (map event_of (events p)) (rooms p)

-- the lines of a queue wire: what its queues hold, and the room that they have for events
abbrev pub queue_line : QueueWire → ℕ → Line
queue_line w = queued (items_at w.requests) (items_at w.events) (room_at w.events) w.broken.now

-- a line with nothing on it, and that limit
abbrev pub fresh : ℕ → Line
fresh room = record { requests = []; broken = false; events = []; allowance = room; limit = room }

-- whether a place has a vacant cell for a request
abbrev pub vacant : QueueWire → ℕ → Bool
vacant w place = nat_lt (length (items_at w.requests place)) (room_at w.requests place)

-- what is answered where there was a vacancy, or none
abbrev pub admitted : Bool → Result (Unit {0}) Refusal
admitted b = cond b (Ok tt) (Err NoVacancy)

-- a request more, at the end of the line, where it is taken
abbrev pub received : Bool → Waiting → Line → Line
received taken w l =
    cond taken (record { requests = l.requests ++ w ∷ []; broken = l.broken; events = l.events; allowance = l.allowance; limit = l.limit }) l

-- the broken mark set, where there is such a place
abbrev pub broken : Bool → Line → Line
broken known l =
    cond known (record { requests = l.requests; broken = true; events = l.events; allowance = l.allowance; limit = l.limit }) l
