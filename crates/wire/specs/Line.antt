-- What a wire means at one place.
use Rattle.std.specs.Prelude.{◌≡◌, ℕ, ◌-◌, ◌≤◌, Bool, true, false, cond, List, [], ◌∷◌, ◌++◌, length, Some, None, Option, Ok, Err, Result, ◌==◌, nat_lt}
use Rattle.protocol.specs.Kinds.{agree}
use Rattle.protocol.specs.declared.argument.Argument.{Argument}
use Rattle.protocol.specs.declared.argument.ArgumentType.{ArgumentType}
use Rattle.message.specs.Events.{EventModel, sendable}
use Rattle.message.specs.Meaning.{overlaid}
use Rattle.message.specs.declared.Message.{Message}
use Rattle.message.specs.declared.part.Part.{Part}
use Rattle.queue.specs.Ring.{front, others}
use Rattle.wire.specs.declared.answers.Head.{Head}
use Rattle.wire.specs.declared.answers.Head.TheVariants as head
use Rattle.wire.specs.declared.answers.ReadError.{ReadError}
use Rattle.wire.specs.declared.answers.ReadError.TheVariants as reading
use Rattle.wire.specs.declared.answers.WriteError.{WriteError}
use Rattle.wire.specs.declared.answers.WriteError.TheVariants as writing

-- what a request says: its arguments, and the body that their texts and arrays are parts of
pub record Content : Type 0 where
  pub arguments : List (Argument ℕ Part)
  pub body : List ℕ

-- a waiting request: its sender, its opcode and, for each signature, what it says, or nothing where it is malformed
pub record Waiting : Type 0 where
  pub sender : ℕ
  pub opcode : ℕ
  pub content : List ArgumentType → Option Content

-- a line: the requests that wait, whether it is broken, the events that it took since they were last carried away, how
-- many more it takes, and how many it takes after each flush
pub record Line : Type 0 where
  pub requests : List Waiting
  pub broken : Bool
  pub events : List EventModel
  pub allowance : ℕ
  pub limit : ℕ

-- the line of a place that a wire lacks
abbrev pub lacking : Line
lacking = record { requests = []; broken = false; events = []; allowance = 0; limit = 0 }

abbrev pub headed : Option Waiting → Bool → Head
headed None broken = cond broken head.Broken head.Nothing
headed (Some w) broken = head.Request w.sender w.opcode

-- the first request's sender and opcode, else broken where the mark is set, else nothing
abbrev pub head_of : Line → Head
head_of l = headed (front l.requests) l.broken

-- what a request says under a signature
abbrev pub content_of : List ArgumentType → Option Waiting → Option Content
content_of signature None = None
content_of signature (Some w) = w.content signature

-- what a read gives, into a buffer of so many bytes: what the first request says, and nothing where the buffer is short
abbrev pub reads : ℕ → List ArgumentType → Line → Option Content
reads size signature l = cond (nat_lt size 4096) None (content_of signature (front l.requests))

abbrev pub said : Option Content → Result (Unit {0}) ReadError
said None = Err reading.Malformed
said (Some c) = Ok tt

abbrev pub answered : List ArgumentType → Option Waiting → Result (Unit {0}) ReadError
answered signature None = Err reading.Nothing
answered signature (Some w) = said (w.content signature)

-- short where the buffer is; nothing where no request waits; malformed exactly where the first request is; else it is read
abbrev pub read_answer : ℕ → List ArgumentType → Line → Result (Unit {0}) ReadError
read_answer size signature l = cond (nat_lt size 4096) (Err reading.Short) (answered signature (front l.requests))

abbrev pub rest : Option Content → List Waiting → List Waiting
rest None requests = requests
rest (Some c) requests = others requests

-- the line after a read: without its first request, where that was read
abbrev pub read_after : ℕ → List ArgumentType → Line → Line
read_after size signature l = record {
  requests = rest (reads size signature l) l.requests;
  broken = l.broken;
  events = l.events;
  allowance = l.allowance;
  limit = l.limit;
}

-- the message after a read: the arguments, and past them what it held
abbrev pub message_after : Option Content → Message → Message
message_after None m = m
message_after (Some c) m = record { count = length c.arguments; arguments = overlaid c.arguments m.arguments }

-- the buffer after a read: the body, and past it what it held
abbrev pub body_after : Option Content → List ℕ → List ℕ
body_after None buffer = buffer
body_after (Some c) buffer = overlaid c.body buffer

-- what is read agrees with the signature in number and kind, and has at most 8 arguments and 4,096 bytes
abbrev pub Agrees : List ArgumentType → Option Content → Type 0
Agrees signature None = Unit {0}
Agrees signature (Some c) = (agree signature c.arguments ≡ true) × (length c.arguments ≤ 8) × (length c.body ≤ 4096)

-- refused exactly at allowance 0; else taken, unless the event is too large
abbrev pub write_answer : EventModel → Line → Result (Unit {0}) WriteError
write_answer e l = cond (l.allowance == 0) (Err writing.Refused) (cond (sendable e) (Ok tt) (Err writing.BadSize))

abbrev pub with_event : EventModel → Line → Line
with_event e l = record { requests = l.requests; broken = l.broken; events = l.events ++ e ∷ []; allowance = l.allowance - 1; limit = l.limit }

-- the line after a write: an event that is taken is last, and the allowance is one less
abbrev pub written : EventModel → Line → Line
written e l = cond (l.allowance == 0) l (cond (sendable e) (with_event e l) l)

-- how many events a flush carries
abbrev pub carried : Line → ℕ
carried l = length l.events

-- the line after a flush
abbrev pub flushed : Line → Line
flushed l = record { requests = l.requests; broken = l.broken; events = []; allowance = l.limit; limit = l.limit }

-- the line after it was opened
abbrev pub opened : Line → Line
opened l = record { requests = []; broken = false; events = []; allowance = l.limit; limit = l.limit }
