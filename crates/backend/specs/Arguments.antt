-- The arguments of a request that is neither the display's nor a registry's, looked at one after the other.
use Rattle.std.specs.Prelude.{ℕ, ◌+◌, Bool, true, false, cond, List, [], ◌∷◌, Some, None, Ok, Err, Option, Result, ◌==◌}
use Rattle.map.specs.declared.DataMark.TheVariants.{Awaited}
use Rattle.map.specs.declared.fault.MapFault.{MapFault}
use Rattle.map.specs.declared.fault.MapFault.TheVariants as map
use Rattle.map.specs.declared.Object.{Object}
use Rattle.map.specs.declared.ObjectData.{ObjectData}
use Rattle.map.specs.Map.{find_in, insert_answer}
use Rattle.protocol.specs.declared.argument.AllowNull.{AllowNull}
use Rattle.protocol.specs.declared.argument.AllowNull.TheVariants.{Yes, No}
use Rattle.protocol.specs.declared.argument.Argument.{Argument}
use Rattle.protocol.specs.declared.argument.ArgumentType.{ArgumentType}
use Rattle.protocol.specs.declared.argument.ArgumentType.TheVariants as kind
use Rattle.protocol.specs.Meaning.{admits_in}
use Rattle.protocol.specs.Model.{MessageModel}
use Rattle.message.specs.declared.part.Part.{Part}
use Rattle.backend.specs.declared.ids.ObjectId.{ObjectId}
use Rattle.backend.specs.declared.faults.ClientFault.{ClientFault}
use Rattle.backend.specs.declared.faults.ClientFault.TheVariants.{Entry, NullText, NullObject, UnknownId, WrongInterface}
use Rattle.backend.specs.declared.faults.StepFault.{StepFault}
use Rattle.backend.specs.declared.faults.StepFault.TheVariants as step
use Rattle.backend.specs.Ids.{null_of}
use Rattle.backend.specs.Texts.{name_in, unknown_id, invalid_new_id, invalid_object, invalid_null, no_memory, null_text}
use Rattle.backend.specs.World.{Terms}
use Rattle.backend.specs.Acts.{Seat, enter, draw, fresh}
use Rattle.backend.specs.Reading.{as_text, as_object, as_new_id}

-- a request that is looked at: its sender, the sender's version, and the message
pub record Asked : Type 0 where
  pub sender : ObjectId
  pub version : ℕ
  pub message : MessageModel

-- a fault, and the text that the client is told
pub record Failing : Type 0 where
  pub fault : StepFault
  pub text : List ℕ

-- the fault of the argument of this index
abbrev pub at_argument : ℕ → ClientFault → List ℕ → Failing
at_argument i f text = record { fault = step.Argument (record { index = i; fault = f }); text = text }

-- the text of an entry's fault
abbrev pub entry_text : MapFault → ℕ → List ℕ
entry_text map.Zero id = invalid_new_id id
entry_text map.Beyond id = invalid_new_id id
entry_text map.Taken id = invalid_new_id id
entry_text map.Full id = no_memory

-- an entry's fault, at the argument of this index
abbrev pub entry_failing : ℕ → MapFault → ℕ → Failing
entry_failing i f id = at_argument i (Entry f) (entry_text f id)

-- What one argument came to: the seat after it, the object that the request has entered so far, the argument rows that are left, the
-- handle that stands for the argument, and the fault.
pub record Checked : Type 0 where
  pub seat : Seat
  pub child : Option ObjectId
  pub wanted : List ℕ
  pub object : Option ObjectId
  pub fault : Option Failing

-- the argument is in order
abbrev pub passes : Option ObjectId → List ℕ → Option ObjectId → Seat → Checked
passes child wanted object s = record { seat = s; child = child; wanted = wanted; object = object; fault = None }

-- the argument is at fault
abbrev pub fails : Option ObjectId → List ℕ → Failing → Seat → Checked
fails child wanted f s = record { seat = s; child = child; wanted = wanted; object = None; fault = Some f }

-- a text that is null where that is not allowed
abbrev pub forbids_null : AllowNull → Bool
forbids_null Yes = false
forbids_null No = true

-- the argument is a null text
abbrev pub is_null_text : Option (Option Part) → Bool
is_null_text None = false
is_null_text (Some None) = true
is_null_text (Some (Some p)) = false

-- a text: at fault where it is null and that is not allowed
abbrev pub text_argument : ℕ → AllowNull → Option (Option Part) → Option ObjectId → List ℕ → Seat → Checked
text_argument i n text child wanted s =
    cond (is_null_text text) (cond (forbids_null n) (fails child wanted (at_argument i NullText null_text) s) (passes child wanted None s)) (passes child wanted None s)

-- The next argument row: each Object argument has its own. (Where none is left, row 0 admits all; the laws of a catalogue rule that out.)
abbrev pub next_row : List ℕ → ℕ
next_row [] = 0
next_row (r ∷ rs) = r

-- the argument rows behind the next
abbrev pub later_rows : List ℕ → List ℕ
later_rows [] = []
later_rows (r ∷ rs) = rs

-- an object that is not null must be live, and of the interface of its argument row
abbrev pub live_argument : Terms → Asked → ℕ → ℕ → Option (Object ObjectData) → Option ObjectId → List ℕ → Seat → Checked
live_argument t q i id None child wanted s = fails child (later_rows wanted) (at_argument i UnknownId (unknown_id id)) s
live_argument t q i id (Some o) child wanted s =
    cond (admits_in t.rows (next_row wanted) o.row)
    (passes child (later_rows wanted) (Some (record { client = q.sender.client; id = id; serial = o.«data».serial; row = o.row })) s)
    (fails child (later_rows wanted)
    (at_argument i WrongInterface
    (invalid_object id (name_in t.rows q.sender.row) q.message.name (name_in t.rows (next_row wanted)) (name_in t.rows o.row)))
    s)

-- an object: null where that is allowed, or live and of its argument row's interface
abbrev pub object_argument : Terms → Asked → ℕ → AllowNull → Option ℕ → Option ObjectId → List ℕ → Seat → Checked
object_argument t q i n None child wanted s = passes child (later_rows wanted) None s
object_argument t q i n (Some id) child wanted s =
    cond (id == 0)
    (cond (forbids_null n) (fails child (later_rows wanted) (at_argument i NullObject (invalid_null (name_in t.rows q.sender.row) q.message.name)) s)
    (passes child (later_rows wanted) (Some (null_of q.sender.client)) s))
    (live_argument t q i id (find_in s.client.map id) child wanted s)

-- the row of the object that a request makes (the laws of a catalogue say that there is one)
abbrev pub child_row : Option ℕ → ℕ
child_row None = 0
child_row (Some row) = row

-- a new id is entered without data, with the child row and the sender's version; a failed entry takes its serial
abbrev pub entering : Asked → ℕ → ℕ → Result (Unit {0}) MapFault → Option ObjectId → List ℕ → Seat → Checked
entering q i id (Ok u) child wanted s =
    passes (Some (fresh q.sender.client id (child_row q.message.child) s.client)) wanted
    (Some (fresh q.sender.client id (child_row q.message.child) s.client))
    (enter q.sender.client id (child_row q.message.child) q.version Awaited s)
entering q i id (Err f) child wanted s = fails child wanted (entry_failing i f id) (draw s)

-- a new id is entered
abbrev pub new_id_argument : Asked → ℕ → Option ℕ → Option ObjectId → List ℕ → Seat → Checked
new_id_argument q i None child wanted s = passes child wanted None s
new_id_argument q i (Some id) child wanted s = entering q i id (insert_answer s.client.map id) child wanted s

-- one argument, by its kind in the signature
abbrev pub argument : Terms → Asked → ℕ → ArgumentType → Argument ℕ Part → Option ObjectId → List ℕ → Seat → Checked
argument t q i kind.Int a child wanted s = passes child wanted None s
argument t q i kind.Uint a child wanted s = passes child wanted None s
argument t q i kind.Fixed a child wanted s = passes child wanted None s
argument t q i (kind.Str n) a child wanted s = text_argument i n (as_text a) child wanted s
argument t q i (kind.Object n) a child wanted s = object_argument t q i n (as_object a) child wanted s
argument t q i kind.NewId a child wanted s = new_id_argument q i (as_new_id a) child wanted s
argument t q i kind.Array a child wanted s = passes child wanted None s
argument t q i kind.Fd a child wanted s = passes child wanted None s

-- What all arguments came to: the seat after them, the object that was entered, the handle that stands for each, and the first fault.
pub record Walked : Type 0 where
  pub seat : Seat
  pub child : Option ObjectId
  pub objects : List (Option ObjectId)
  pub fault : Option Failing

-- the first fault ends the walk
abbrev pub continued : Option Failing → Checked → Walked → Walked
continued (Some f) c rest = record { seat = c.seat; child = c.child; objects = []; fault = Some f }
continued None c rest = record { seat = rest.seat; child = rest.child; objects = c.object ∷ rest.objects; fault = rest.fault }

-- the arguments from the index i on, with the object entered so far and the argument rows that are left
abbrev pub walk : Terms → Asked → ℕ → List ArgumentType → List (Argument ℕ Part) → Option ObjectId → List ℕ → Seat → Walked
walk t q i [] as' child wanted s = record { seat = s; child = child; objects = []; fault = None }
walk t q i (k ∷ ks) [] child wanted s = record { seat = s; child = child; objects = []; fault = None }
walk t q i (k ∷ ks) (a ∷ as') child wanted s =
    let c = argument t q i k a child wanted s in continued c.fault c (walk t q (i + 1) ks as' c.child c.wanted c.seat)
