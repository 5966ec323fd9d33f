-- What a step does with the first request of a client's line.
use Rattle.std.specs.Prelude.{ℕ, cond, not, ◌&&◌, List, [], ◌∷◌, length, Some, None, Ok, Err, Option, Result, ◌==◌, nat_lt}
use Rattle.std.specs.Str.{bytes_eq}
use Rattle.map.specs.declared.DataMark.TheVariants.{Own, Awaited}
use Rattle.map.specs.declared.fault.MapFault.{MapFault}
use Rattle.map.specs.declared.Object.{Object}
use Rattle.map.specs.declared.ObjectData.{ObjectData}
use Rattle.map.specs.Map.{find_in, insert_answer}
use Rattle.protocol.specs.declared.argument.Argument.{Argument}
use Rattle.protocol.specs.Meaning.{request_in}
use Rattle.protocol.specs.Model.{MessageModel}
use Rattle.message.specs.declared.Message.{Message}
use Rattle.message.specs.declared.part.Part.{Part}
use Rattle.message.specs.Meaning.{part_in, overlaid}
use Rattle.wire.specs.declared.answers.Head.{Head}
use Rattle.wire.specs.declared.answers.Head.TheVariants as head
use Rattle.wire.specs.Line.{Content, reads, read_after, message_after, body_after}
use Rattle.backend.specs.declared.ids.ClientId.{ClientId}
use Rattle.backend.specs.declared.ids.ObjectId.{ObjectId}
use Rattle.backend.specs.declared.client.Client.{Client}
use Rattle.backend.specs.declared.client.DisconnectReason.TheVariants.{ConnectionClosed}
use Rattle.backend.specs.declared.faults.ClientFault.TheVariants.{RollFull, NullInterface}
use Rattle.backend.specs.declared.faults.StepFault.TheVariants as fault
use Rattle.backend.specs.declared.registry.Global.{Global}
use Rattle.backend.specs.declared.registry.Registry.{Registry}
use Rattle.backend.specs.declared.ticket.Bound.{Bound}
use Rattle.backend.specs.declared.ticket.Origin.{Origin}
use Rattle.backend.specs.declared.ticket.Outstanding.{Outstanding}
use Rattle.backend.specs.declared.ticket.Outstanding.TheVariants as out
use Rattle.backend.specs.declared.answers.StepAnswer.{StepAnswer}
use Rattle.backend.specs.declared.answers.StepAnswer.TheVariants.{Idle, Closed, Synced, Registered, Plain, Making, Failed}
use Rattle.backend.specs.Events.{done_event}
use Rattle.backend.specs.Faults.{code_of, number_of_error}
use Rattle.backend.specs.Texts.{name_in, unknown_id, unknown_opcode, invalid_method, invalid_binding, no_memory, malformed_request, null_interface}
use Rattle.backend.specs.Tickets.{unsettled, making_of}
use Rattle.backend.specs.World.{Terms}
use Rattle.backend.specs.Acts.{received, Seat, kill, offer, fail, fresh, enter, draw, end}
use Rattle.backend.specs.Registries.{roll_end, enrolled, global_id, global_named, visible, announce_all}
use Rattle.backend.specs.Reading.{BindAsked, only_new_id, bind_arguments}
use Rattle.backend.specs.Arguments.{Failing, at_argument, entry_failing, Walked, walk}

-- what the caller of a step lends: a message, a handle for each of its arguments, a body and a buffer for an error's text
pub record Buffers : Type 0 where
  pub message : Message
  pub objects : List ObjectId
  pub body : List ℕ
  pub text : List ℕ

-- what a step did: its answer, the client and its line, the roll, what is outstanding, and the buffers
pub record Stepped : Type 0 where
  pub answer : StepAnswer
  pub seat : Seat
  pub roll : List (Option ObjectId)
  pub outstanding : Outstanding
  pub buffers : Buffers

-- handles for the arguments that name objects; the others stay as they were
abbrev pub laid : List (Option ObjectId) → List ObjectId → List ObjectId
laid [] xs = xs
laid (o ∷ os) [] = []
laid (None ∷ os) (x ∷ xs) = x ∷ laid os xs
laid (Some y ∷ os) (x ∷ xs) = y ∷ laid os xs

-- the buffers with a text at the front
abbrev pub with_text : List ℕ → Buffers → Buffers
with_text text b = record { message = b.message; objects = b.objects; body = b.body; text = overlaid text b.text }

-- the buffers with handles for the objects of the message
abbrev pub with_objects : List (Option ObjectId) → Buffers → Buffers
with_objects os b = record { message = b.message; objects = laid os b.objects; body = b.body; text = b.text }

-- where a request is looked at: the terms, the registry as it is before the call, and the client
pub record Place : Type 0 where
  pub terms : Terms
  pub registry : Registry
  pub client : ClientId

-- an answer that hands out no ticket and leaves the roll
abbrev pub quiet : Place → StepAnswer → Seat → Buffers → Stepped
quiet p a s b = record { answer = a; seat = s; roll = p.registry.roll; outstanding = out.Nothing; buffers = b }

-- the request broke the protocol: the error names object 1, the display
abbrev pub failed : Place → Failing → Option ObjectId → Seat → Buffers → Stepped
failed p f made s b =
    quiet p (Failed (record { fault = f.fault; entered = made; text = length f.text })) (fail (number_of_error (code_of f.fault)) 1 1 f.text s) (with_text f.text b)

-- a plain ticket is handed out
abbrev pub hand_plain : Place → Origin → List (Option ObjectId) → Seat → Buffers → Stepped
hand_plain p o os s b = record { answer = Plain (unsettled o); seat = s; roll = p.registry.roll; outstanding = out.Plain o; buffers = with_objects os b }

-- a making ticket is handed out
abbrev pub hand_making : Place → Origin → ObjectId → Option Bound → List (Option ObjectId) → Seat → Buffers → Stepped
hand_making p o child bound os s b =
    record { answer = Making (unsettled (making_of o child bound)); seat = s; roll = p.registry.roll; outstanding = out.Making (making_of o child bound); buffers = with_objects os b }

-- wl_display.sync: a callback is entered, told that it is done, and ends
abbrev pub synced : Place → ℕ → Result (Unit {0}) MapFault → Seat → Buffers → Stepped
synced p id (Err f) s b = failed p (entry_failing 0 f id) None (draw s) b
synced p id (Ok u) s b =
    quiet p (Synced (record { object = fresh p.client id 3 s.client; mark = Own }))
    (end (fresh p.client id 3 s.client) Own (offer (done_event id) (enter p.client id 3 1 Own s))) b

-- wl_display.get_registry: a registry is entered, told of the globals, and put last on the roll; the entry's fault comes first
abbrev pub enlisted : Place → ℕ → Option ℕ → Seat → Buffers → Stepped
enlisted p id None s b = failed p (at_argument 0 RollFull no_memory) None (draw s) b
enlisted p id (Some i) s b = record {
  answer = Registered (fresh p.client id 2 s.client);
  seat = announce_all p.terms (fresh p.client id 2 s.client) 1 p.registry.globals.places (enter p.client id 2 1 Own s);
  roll = enrolled (fresh p.client id 2 s.client) p.registry.roll;
  outstanding = out.Nothing;
  buffers = b;
}

-- a registry is asked for, at this id
abbrev pub registered : Place → ℕ → Result (Unit {0}) MapFault → Seat → Buffers → Stepped
registered p id (Err f) s b = failed p (entry_failing 0 f id) None (draw s) b
registered p id (Ok u) s b = enlisted p id (roll_end p.registry.roll) s b

-- a request of the display: sync is opcode 0, get_registry the other
abbrev pub displayed : Place → ℕ → Option ℕ → Seat → Buffers → Stepped
displayed p opcode None s b = failed p (record { fault = fault.Malformed; text = malformed_request }) None s b
displayed p opcode (Some id) s b =
    cond (opcode == 0) (synced p id (insert_answer s.client.map id) s b) (registered p id (insert_answer s.client.map id) s b)

-- Binding.

-- the global is there, of that interface and at least that version, and the client sees it
abbrev pub bindable : Place → Client → ℕ → List ℕ → ℕ → Option Global → Option Global
bindable p k name interface version None = None
bindable p k name interface version (Some g) =
    cond (nat_lt 0 version && (bytes_eq (name_in p.terms.rows g.row) interface && (not (nat_lt g.version version) && visible p.terms p.client k name g))) (Some g) None

-- the new object is entered without data, with the global's row and the version that was asked for
abbrev pub bind_entered : Place → Origin → ℕ → ℕ → ℕ → Global → Result (Unit {0}) MapFault → Seat → Buffers → Stepped
bind_entered p o name version id g (Err f) s b = failed p (entry_failing 3 f id) None (draw s) b
bind_entered p o name version id g (Ok u) s b =
    hand_making p o (fresh p.client id g.row s.client) (Some (record { global = global_id name g; handler = g.handler }))
    (None ∷ None ∷ None ∷ Some (fresh p.client id g.row s.client) ∷ [])
    (enter p.client id g.row version Awaited s) b

-- a bind to what is under that name
abbrev pub bind_to : Place → Origin → ℕ → List ℕ → ℕ → ℕ → Option Global → Seat → Buffers → Stepped
bind_to p o name interface version id None s b = failed p (record { fault = fault.InvalidBinding; text = invalid_binding interface version name }) None s b
bind_to p o name interface version id (Some g) s b = bind_entered p o name version id g (insert_answer s.client.map id) s b

-- a bind to a global of that name and interface
abbrev pub bind_named : Place → Origin → ℕ → Option Part → ℕ → ℕ → Seat → Buffers → Stepped
bind_named p o name None version id s b = failed p (at_argument 1 NullInterface null_interface) None s b
bind_named p o name (Some text) version id s b =
    bind_to p o name (part_in b.body text) version id
    (bindable p s.client name (part_in b.body text) version (global_named p.registry.globals.places name)) s b

-- a request of a registry, which is a bind
abbrev pub bound : Place → Origin → Option (BindAsked Part) → Seat → Buffers → Stepped
bound p o None s b = failed p (record { fault = fault.Malformed; text = malformed_request }) None s b
bound p o (Some a) s b = bind_named p o a.name a.interface a.version a.new_id s b

-- Any other request.

-- a ticket, making where an object was entered
abbrev pub hand_out : Place → Origin → Option ObjectId → List (Option ObjectId) → Seat → Buffers → Stepped
hand_out p o None os s b = hand_plain p o os s b
hand_out p o (Some child) os s b = hand_making p o child None os s b

-- with no fault a ticket is handed out, making where there is a child
abbrev pub concluded : Place → Origin → Option Failing → Walked → Buffers → Stepped
concluded p o (Some f) r b = failed p f r.child r.seat b
concluded p o None r b = hand_out p o r.child r.objects r.seat b

-- a request must be in the sender's version; then its arguments are looked at
abbrev pub asked : Place → Origin → Object ObjectData → MessageModel → List (Argument ℕ Part) → Seat → Buffers → Stepped
asked p o sender m as' s b =
    cond (nat_lt sender.version m.since)
    (failed p (record { fault = fault.TooNew; text = invalid_method o.opcode sender.version m.since (name_in p.terms.rows sender.row) o.sender.id }) None s b)
    (let r = walk p.terms (record { sender = o.sender; version = sender.version; message = m }) 0 m.kinds as' None m.rows s in concluded p o r.fault r b)

-- From the line.

-- what a ticket of this request says
abbrev pub origin_of : ClientId → ℕ → ℕ → Object ObjectData → MessageModel → Origin
origin_of c id opcode o m = record {
  client = c;
  sender = record { client = c; id = id; serial = o.«data».serial; row = o.row };
  «data» = o.«data».mark;
  opcode = opcode;
  destructor = m.destructor;
}

-- a request that was read goes by the row of its sender: the display's, a registry's, or any other
abbrev pub dispatched : Place → Origin → Object ObjectData → MessageModel → List (Argument ℕ Part) → Seat → Buffers → Stepped
dispatched p o sender m as' s b =
    cond (sender.row == 1) (displayed p o.opcode (only_new_id as') s b)
    (cond (sender.row == 2) (bound p o (bind_arguments as') s b) (asked p o sender m as' s b))

-- the request is taken off the line, and its arguments and body lie in the caller's buffers
abbrev pub received_at : MessageModel → Seat → Buffers → Seat
received_at m s b = record { client = s.client; line = read_after (length b.body) m.kinds s.line; acts = received ∷ s.acts }

-- the buffers with what was read
abbrev pub filled : Content → Buffers → Buffers
filled c b = record { message = message_after (Some c) b.message; objects = b.objects; body = body_after (Some c) b.body; text = b.text }

-- a request that is malformed, or was read
abbrev pub read_in : Place → Origin → Object ObjectData → MessageModel → Option Content → Seat → Buffers → Stepped
read_in p o sender m None s b = failed p (record { fault = fault.Malformed; text = malformed_request }) None s b
read_in p o sender m (Some c) s b = dispatched p o sender m c.arguments (received_at m s b) (filled c b)

-- a request that is malformed under its signature stays on the line
abbrev pub of_message : Place → ℕ → ℕ → Object ObjectData → Option MessageModel → Seat → Buffers → Stepped
of_message p id opcode sender None s b = failed p (record { fault = fault.UnknownOpcode; text = unknown_opcode opcode (name_in p.terms.rows sender.row) }) None s b
of_message p id opcode sender (Some m) s b =
    read_in p (origin_of p.client id opcode sender m) sender m (reads (length b.body) m.kinds s.line) s b

-- a request of this sender
abbrev pub of_sender : Place → ℕ → ℕ → Option (Object ObjectData) → Seat → Buffers → Stepped
of_sender p id opcode None s b = failed p (record { fault = fault.UnknownSender; text = unknown_id id }) None s b
of_sender p id opcode (Some o) s b = of_message p id opcode o (request_in p.terms.rows o.row opcode) s b

-- no request: idle; a broken line: the client is killed as closed; else the request is looked at
abbrev pub stepped : Place → Head → Seat → Buffers → Stepped
stepped p head.Nothing s b = quiet p Idle s b
stepped p head.Broken s b = quiet p Closed (kill ConnectionClosed s) b
stepped p (head.Request id opcode) s b = of_sender p id opcode (find_in s.client.map id) s b
