-- Sending an event: what is looked at before, argument by argument, and what goes to the wire.
use Rattle.std.specs.Prelude.{ℕ, Bool, true, false, cond, not, ◌&&◌, List, [], ◌∷◌, Some, None, Ok, Err, Option, Result, ◌==◌, nat_lt}
use Rattle.map.specs.declared.fault.InvalidId.{InvalidId}
use Rattle.map.specs.declared.Object.{Object as MapObject}
use Rattle.map.specs.declared.ObjectData.{ObjectData}
use Rattle.map.specs.Named.{lookup_in}
use Rattle.protocol.specs.declared.argument.AllowNull.{AllowNull}
use Rattle.protocol.specs.declared.argument.Argument.{Argument}
use Rattle.protocol.specs.declared.argument.Argument.TheVariants.{Int, Uint, Fixed, Str, Object, NewId, Array, Fd}
use Rattle.protocol.specs.declared.argument.ArgumentType.{ArgumentType}
use Rattle.protocol.specs.declared.argument.ArgumentType.TheVariants as kind
use Rattle.protocol.specs.declared.refusal.Refusal.{Refusal}
use Rattle.protocol.specs.declared.refusal.Refusal.TheVariants.{Reserved, NoEvent, BadSignature, OtherClient, DeadArgument, NoChild, WrongInterface, NullArgument}
use Rattle.protocol.specs.Kinds.{agree}
use Rattle.protocol.specs.Meaning.{event_in, same_interface, admits_in}
use Rattle.protocol.specs.Model.{RowModel, MessageModel}
use Rattle.message.specs.Events.{EventModel}
use Rattle.backend.specs.declared.ids.ClientId.{ClientId}
use Rattle.backend.specs.declared.ids.ObjectId.{ObjectId}
use Rattle.backend.specs.declared.client.Client.{Client}
use Rattle.backend.specs.Ids.{local_of, same_client}
use Rattle.backend.specs.Reading.{as_text, as_object, as_new_id}
use Rattle.backend.specs.Arguments.{forbids_null, next_row, later_rows}
use Rattle.backend.specs.Checks.{passing, unless, the_object}

-- an argument of an event as the server gives it: objects by handle, texts and arrays as bytes
abbrev pub SendArgument : Type 0
SendArgument = Argument ObjectId (List ℕ)

-- as it goes to the wire: objects by id
abbrev pub plain_argument : SendArgument → Argument ℕ (List ℕ)
plain_argument (Int x) = Int x
plain_argument (Uint x) = Uint x
plain_argument (Fixed x) = Fixed x
plain_argument (Str x) = Str x
plain_argument (Object x) = Object x.id
plain_argument (NewId x) = NewId x.id
plain_argument (Array x) = Array x
plain_argument (Fd x) = Fd x

-- all of them as they go to the wire
abbrev pub plain_arguments : List SendArgument → List (Argument ℕ (List ℕ))
plain_arguments [] = []
plain_arguments (a ∷ as') = plain_argument a ∷ plain_arguments as'

-- the event that goes to the wire
abbrev pub sent_event : ObjectId → ℕ → List SendArgument → EventModel
sent_event x opcode as' = record { sender = x.id; opcode = opcode; arguments = plain_arguments as' }

-- a look-up that found nothing
abbrev pub is_dead : Result (MapObject ObjectData) InvalidId → Bool
is_dead (Ok o) = false
is_dead (Err e) = true

-- the handle is not that of a live object of the client
abbrev pub dead : Client → ObjectId → Bool
dead k x = is_dead (lookup_in k.map (local_of x))

-- an object argument: null only where that is allowed, else this client's, live, and of the interface of its argument row
abbrev pub send_object : List RowModel → ClientId → Client → AllowNull → ℕ → ObjectId → Result (Unit {0}) Refusal
send_object rows c k n row x =
    cond (x.id == 0) (unless (not (forbids_null n)) NullArgument)
    (passing (unless (same_client x.client c) OtherClient) (λ _.
    passing (unless (not (dead k x)) DeadArgument) (λ _. unless (admits_in rows row x.row) WrongInterface)))

-- a new object is of the interface that the event makes
abbrev pub child_fits : List RowModel → Option ℕ → ObjectId → Result (Unit {0}) Refusal
child_fits rows None x = Err NoChild
child_fits rows (Some row) x = unless (same_interface rows row x.row) WrongInterface

-- a new id: never null, this client's, live, and of the interface that the event makes
abbrev pub send_new_id : List RowModel → ClientId → Client → Option ℕ → ObjectId → Result (Unit {0}) Refusal
send_new_id rows c k child x =
    cond (x.id == 0) (Err NullArgument)
    (passing (unless (same_client x.client c) OtherClient) (λ _.
    passing (unless (not (dead k x)) DeadArgument) (λ _. child_fits rows child x)))

-- the argument is a null text
abbrev pub null_text_given : Option (Option (List ℕ)) → Bool
null_text_given None = false
null_text_given (Some None) = true
null_text_given (Some (Some t)) = false

-- a text: null only where that is allowed
abbrev pub send_text : AllowNull → Option (Option (List ℕ)) → Result (Unit {0}) Refusal
send_text n text = unless (not (null_text_given text && forbids_null n)) NullArgument

-- an object argument, if it is one
abbrev pub if_object : List RowModel → ClientId → Client → AllowNull → ℕ → Option ObjectId → Result (Unit {0}) Refusal
if_object rows c k n row None = Ok tt
if_object rows c k n row (Some x) = send_object rows c k n row x

-- a new id, if it is one
abbrev pub if_new_id : List RowModel → ClientId → Client → Option ℕ → Option ObjectId → Result (Unit {0}) Refusal
if_new_id rows c k child None = Ok tt
if_new_id rows c k child (Some x) = send_new_id rows c k child x

-- one argument, by its kind in the signature
abbrev pub send_argument : List RowModel → ClientId → Client → Option ℕ → List ℕ → ArgumentType → SendArgument → Result (Unit {0}) Refusal
send_argument rows c k child wanted kind.Int a = Ok tt
send_argument rows c k child wanted kind.Uint a = Ok tt
send_argument rows c k child wanted kind.Fixed a = Ok tt
send_argument rows c k child wanted (kind.Str n) a = send_text n (as_text a)
send_argument rows c k child wanted (kind.Object n) a = if_object rows c k n (next_row wanted) (as_object a)
send_argument rows c k child wanted kind.NewId a = if_new_id rows c k child (as_new_id a)
send_argument rows c k child wanted kind.Array a = Ok tt
send_argument rows c k child wanted kind.Fd a = Ok tt

-- the argument rows after an argument: only an Object argument has one
abbrev pub rows_after : ArgumentType → List ℕ → List ℕ
rows_after kind.Int wanted = wanted
rows_after kind.Uint wanted = wanted
rows_after kind.Fixed wanted = wanted
rows_after (kind.Str n) wanted = wanted
rows_after (kind.Object n) wanted = later_rows wanted
rows_after kind.NewId wanted = wanted
rows_after kind.Array wanted = wanted
rows_after kind.Fd wanted = wanted

-- all arguments, in order
abbrev pub send_arguments : List RowModel → ClientId → Client → Option ℕ → List ℕ → List ArgumentType → List SendArgument → Result (Unit {0}) Refusal
send_arguments rows c k child wanted [] as' = Ok tt
send_arguments rows c k child wanted (t ∷ ts) [] = Ok tt
send_arguments rows c k child wanted (t ∷ ts) (a ∷ as') =
    passing (send_argument rows c k child wanted t a) (λ _. send_arguments rows c k child (rows_after t wanted) ts as')

-- the event of an opcode, not newer than the object's version
abbrev pub in_version : ℕ → Option MessageModel → Result MessageModel Refusal
in_version version None = Err NoEvent
in_version version (Some m) = cond (nat_lt version m.since) (Err NoEvent) (Ok m)

-- delete_id is the engine's own to send
abbrev pub reserved_event : ℕ → ℕ → Bool
reserved_event row opcode = row == 1 && opcode == 1

-- what an event may be sent by: the object, and the message
pub record Sendable : Type 0 where
  pub object : MapObject ObjectData
  pub message : MessageModel

-- what an event of a live client must meet, in the order of the refusals
abbrev pub send_checks : List RowModel → Client → ObjectId → ℕ → List SendArgument → Result Sendable Refusal
send_checks rows k x opcode as' =
    passing (the_object k x) (λ o.
    passing (unless (not (reserved_event x.row opcode)) Reserved) (λ _.
    passing (in_version o.version (event_in rows x.row opcode)) (λ m.
    passing (unless (agree m.kinds as') BadSignature) (λ _.
    passing (send_arguments rows x.client k m.child m.rows m.kinds as') (λ _. Ok (record { object = o; message = m }))))))
