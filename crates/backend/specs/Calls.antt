-- What each call looks for, and what it then does. (A step is in Requests, what an event must meet in Sending.)
use Rattle.std.specs.Prelude.{ℕ, ◌+◌, ◌-◌, Bool, true, false, cond, not, ◌&&◌, ltb, List, [], ◌∷◌, length, Some, None, Ok, Err, Option, Result, ◌==◌, nat_lt}
use Rattle.places.specs.Tables.{entered_in}
use Rattle.places.specs.Places.{first_vacant}
use Rattle.map.specs.declared.DataMark.{DataMark}
use Rattle.map.specs.declared.DataMark.TheVariants.{Own, Number}
use Rattle.map.specs.declared.Object.{Object}
use Rattle.map.specs.declared.ObjectData.{ObjectData}
use Rattle.map.specs.Map.{empty_map, find_in, inserted, new_answer, new_after, next_after}
use Rattle.map.specs.Named.{mark_after}
use Rattle.protocol.specs.Tallies.{all}
use Rattle.protocol.specs.declared.refusal.Refusal.{Refusal}
use Rattle.protocol.specs.declared.refusal.Refusal.TheVariants.{BadSize, TicketOutstanding, ClientKilled, Reserved, VersionAbove, NoVacancy}
use Rattle.message.specs.Events.{sendable}
use Rattle.wire.specs.Line.{carried, head_of, opened as opened_line, write_answer}
use Rattle.wire.specs.declared.answers.WriteError.{WriteError}
use Rattle.backend.specs.declared.ids.ClientId.{ClientId}
use Rattle.backend.specs.declared.ids.ObjectId.{ObjectId}
use Rattle.backend.specs.declared.ids.GlobalId.{GlobalId}
use Rattle.backend.specs.declared.client.Client.{Client}
use Rattle.backend.specs.declared.client.ClientState.{ClientState}
use Rattle.backend.specs.declared.client.ClientState.TheVariants.{Live, Untold, Told}
use Rattle.backend.specs.declared.client.DisconnectReason.{DisconnectReason}
use Rattle.backend.specs.declared.client.DisconnectReason.TheVariants.{ConnectionClosed, ProtocolError}
use Rattle.backend.specs.declared.client.End.{End}
use Rattle.backend.specs.declared.registry.Global.{Global}
use Rattle.backend.specs.declared.ticket.Origin.{Origin}
use Rattle.backend.specs.declared.ticket.Outstanding.{Outstanding}
use Rattle.backend.specs.declared.ticket.Outstanding.TheVariants as out
use Rattle.backend.specs.declared.answers.StepAnswer.{StepAnswer}
use Rattle.backend.specs.declared.answers.ObjectInfo.{ObjectInfo}
use Rattle.backend.specs.declared.answers.SendAnswer.{SendAnswer}
use Rattle.backend.specs.declared.answers.SendAnswer.TheVariants.{Sent, Lost, NotSent}
use Rattle.backend.specs.declared.answers.KillAnswer.{KillAnswer}
use Rattle.backend.specs.declared.answers.KillAnswer.TheVariants.{Killed, NoEffect}
use Rattle.backend.specs.declared.answers.DisableAnswer.{DisableAnswer}
use Rattle.backend.specs.declared.answers.DisableAnswer.TheVariants.{Disabled, Already}
use Rattle.backend.specs.declared.answers.ChildAnswer.{ChildAnswer}
use Rattle.backend.specs.declared.answers.ChildAnswer.TheVariants.{Set, Gone}
use Rattle.backend.specs.declared.answers.SettledMaking.{SettledMaking}
use Rattle.backend.specs.declared.answers.TidyAnswer.{TidyAnswer}
use Rattle.backend.specs.declared.answers.TidyAnswer.TheVariants.{Reason, Ended, Vacated, Nothing}
use Rattle.backend.specs.Ids.{local_of}
use Rattle.backend.specs.World.{Terms, World, is_live, following, with_state, with_map, drawn, with_store, with_registry, with_place, with_roll, with_global, with_outstanding, on_line}
use Rattle.backend.specs.Acts.{entered, opened, Seat, Run, from, in_world, seat, tagged, resumed, kill, offer, fail, flush, fresh, new_object, remove, end}
use Rattle.backend.specs.Registries.{off_roll, global_id, announce, retract, along_roll}
use Rattle.backend.specs.Requests.{Buffers, Stepped, stepped}
use Rattle.backend.specs.Checks.{passing, unless, present, the_client, the_object, Owned, the_owned, the_row}
use Rattle.backend.specs.Sending.{SendArgument, sent_event, Sendable, send_checks}

-- what a call that was not refused gives, and what it did
pub record Done (A : Type 0) : Type 0 where
  pub value : A
  pub run : Run

-- a call that is over: what it answers, and the run
abbrev pub done : {A : Type 0} → A → Run → Done A
done a r = record { value = a; run = r }

-- admit: the lowest vacant place is filled, its line is opened, and the display is entered

-- the display, as every client has it
abbrev pub display_object : Object ObjectData
display_object = record { row = 1; version = 1; «data» = record { serial = 0; mark = Own } }

-- the display's handle has serial 0
abbrev pub display_id : ClientId → ObjectId
display_id c = record { client = c; id = 1; serial = 0; row = 1 }

-- a client that was just admitted: live, with nothing but its display
abbrev pub newcomer : ℕ → ℕ → Client
newcomer serial d = record { serial = serial; «data» = d; state = Live; last_serial = 0; map = inserted empty_map 1 display_object }

-- an admission needs a vacant place
abbrev pub admit_check : World → Result ℕ Refusal
admit_check w = present (first_vacant w.engine.store.clients.places w.engine.store.clients.len) NoVacancy

-- the handle of a client that is admitted now
abbrev pub new_client_id : ℕ → World → ClientId
new_client_id p w = record { place = p; serial = following w.engine.store.last_serial }

-- the world with a new client in a place, and its line opened
abbrev pub admit_world : ℕ → ℕ → World → World
admit_world d p w = on_line p opened_line (with_store (record {
  clients = entered_in (Some p) w.engine.store.clients (newcomer (following w.engine.store.last_serial) d);
  last_serial = following w.engine.store.last_serial;
}) w)

-- what an admission does
abbrev pub admit_act : ℕ → World → ℕ → Done ClientId
admit_act d w p =
    done (new_client_id p w) (record { world = admit_world d p w; deeds = tagged (new_client_id p w) (entered (display_id (new_client_id p w)) ∷ opened ∷ []) })

-- step

-- no ticket is outstanding
abbrev pub is_free : Outstanding → Bool
is_free out.Nothing = true
is_free (out.Plain o) = false
is_free (out.Making m) = false

-- the buffers of a step have room for a text and a body
abbrev pub roomy : Buffers → Bool
roomy b = not (nat_lt (length b.text) 192) && not (nat_lt (length b.body) 4096)

-- what a step must meet, in the order of the refusals
abbrev pub step_check : ClientId → Buffers → World → Result Client Refusal
step_check c b w =
    passing (unless (roomy b) BadSize) (λ _.
    passing (unless (is_free w.engine.outstanding) TicketOutstanding) (λ _.
    passing (the_client w c) (λ k.
    passing (unless (is_live k.state) ClientKilled) (λ _. Ok k))))

-- the step of a client that may take one
abbrev pub step_of : Terms → ClientId → Buffers → World → Client → Stepped
step_of t c b w k =
    stepped (record { terms = t; registry = w.engine.registry; client = c }) (head_of (w.lines c.place)) (seat c k (from w)) b

-- the run of a step: its client, its line, the roll and the ticket
abbrev pub step_run : ClientId → World → Stepped → Run
step_run c w s = in_world (λ v. with_outstanding s.outstanding (with_roll s.roll v)) (resumed c s.seat (from w))

-- what a step does
abbrev pub step_act : Terms → ClientId → Buffers → World → Client → Done StepAnswer
step_act t c b w k = done (step_of t c b w k).answer (step_run c w (step_of t c b w k))

-- settle: first a destructor's sender ends, if it lives under its handle, told with the ticket's data; then a live child gets its data

-- the client and the object of a handle that is live
abbrev pub living_of : Result Owned Refusal → Option Owned
living_of (Ok o) = Some o
living_of (Err e) = None

-- the client and the object of a handle, where it is live
abbrev pub living : World → ObjectId → Option Owned
living w x = living_of (the_owned w x)

-- an end in the world: the object leaves its client and the roll
abbrev pub end_in : ObjectId → DataMark → Client → Run → Run
end_in x mark k r = in_world (off_roll x) (resumed x.client (end x mark (seat x.client k r)) r)

-- the sender of a settled request ends, if it lives
abbrev pub sender_ends : Origin → Option Owned → Run → Done (Option End)
sender_ends o None r = done None r
sender_ends o (Some at) r = done (Some (record { object = o.sender; mark = o.«data» })) (end_in o.sender o.«data» at.client r)

-- a destructor's sender ends
abbrev pub settle_sender : Origin → Run → Done (Option End)
settle_sender o r = cond o.destructor (sender_ends o (living r.world o.sender) r) (done None r)

-- the object's data is set to a number
abbrev pub mark_in : ObjectId → ℕ → Client → Run → Run
mark_in x d k r = in_world (with_place x.client.place (Some (with_map (mark_after k.map (local_of x) (Number d)) k))) r

-- the child gets its data, if it lives
abbrev pub child_set : ObjectId → ℕ → Option Owned → Run → Done ChildAnswer
child_set x d None r = done Gone r
child_set x d (Some at) r = done Set (mark_in x d at.client r)

-- the child of a settled request
abbrev pub settle_child : ObjectId → ℕ → Run → Done ChildAnswer
settle_child x d r = child_set x d (living r.world x) r

-- nothing is outstanding any more
abbrev pub settled : Run → Run
settled r = in_world (with_outstanding out.Nothing) r

-- what the settling of a plain ticket does
abbrev pub plain_act : Origin → World → Done (Option End)
plain_act o w = let s = settle_sender o (from w) in done s.value (settled s.run)

-- what the settling of a making ticket does
abbrev pub making_act : Origin → ObjectId → ℕ → World → Done SettledMaking
making_act o child d w =
    let s = settle_sender o (from w) in let c = settle_child child d s.run in done (record { ended = s.value; child = c.value }) (settled c.run)

-- create: an object in the server's half

-- an object more in the server's half
abbrev pub create_seat : ClientId → ℕ → ℕ → ℕ → DataMark → Seat → Seat
create_seat c id row version mark s = record {
  client = with_map (new_after s.client.map (new_object row version mark s.client)) (drawn s.client);
  line = s.line;
  acts = entered (fresh c id row s.client) ∷ s.acts;
}

-- a client, and the id that its next object of the server's half has
pub record Creating : Type 0 where
  pub client : Client
  pub id : ℕ

-- what a creation must meet, in the order of the refusals
abbrev pub create_check : Terms → ClientId → ℕ → World → Result Creating Refusal
create_check t c row w =
    passing (the_client w c) (λ k.
    passing (the_row t.rows row) (λ _.
    passing (present (new_answer k.map) NoVacancy) (λ id. Ok (record { client = k; id = id }))))

-- what a creation does
abbrev pub create_act : ClientId → ℕ → ℕ → ℕ → World → Creating → Done ObjectId
create_act c row version d w at =
    done (fresh c at.id row at.client) (resumed c (create_seat c at.id row version (Number d) (seat c at.client (from w))) (from w))

-- destroy: never of the display

-- what a destruction must meet, in the order of the refusals
abbrev pub destroy_check : ObjectId → World → Result Owned Refusal
destroy_check x w = passing (the_owned w x) (λ at. passing (unless (not (x.id == 1)) Reserved) (λ _. Ok at))

-- the data of an object
abbrev pub mark_of : Owned → DataMark
mark_of at = at.object.«data».mark

-- what a destruction does
abbrev pub destroy_act : ObjectId → World → Owned → Done End
destroy_act x w at = done (record { object = x; mark = mark_of at }) (end_in x (mark_of at) at.client (from w))

-- send: to a killed client nothing is done

-- the client of an event, and the object and message where it is not killed
pub record SendingTo : Type 0 where
  pub client : Client
  pub what : Option Sendable

-- an event that may be sent to a live client
abbrev pub sendable_to : Client → Result Sendable Refusal → Result SendingTo Refusal
sendable_to k (Ok s) = Ok (record { client = k; what = Some s })
sendable_to k (Err e) = Err e

-- what a send must meet, in the order of the refusals
abbrev pub send_check : Terms → ObjectId → ℕ → List SendArgument → World → Result SendingTo Refusal
send_check t x opcode as' w =
    passing (unless (sendable (sent_event x opcode as')) BadSize) (λ _.
    passing (the_client w x.client) (λ k.
    cond (is_live k.state) (sendable_to k (send_checks t.rows k x opcode as')) (Ok (record { client = k; what = None }))))

-- sent, or lost where the wire did not take it
abbrev pub send_answer : Result (Unit {0}) WriteError → Option End → SendAnswer
send_answer (Ok u) e = Sent e
send_answer (Err r) e = Lost e

-- an event with the destructor mark ends its sender after the write, taken or refused
abbrev pub send_end : ObjectId → Sendable → Option End
send_end x s = cond s.message.destructor (Some (record { object = x; mark = s.object.«data».mark })) None

-- the event is put to the wire, and a destructor's sender ends after it
abbrev pub send_seat : ObjectId → ℕ → List SendArgument → Sendable → Seat → Seat
send_seat x opcode as' s a =
    cond s.message.destructor (end x s.object.«data».mark (offer (sent_event x opcode as') a)) (offer (sent_event x opcode as') a)

-- and leaves the roll
abbrev pub send_run : ObjectId → ℕ → List SendArgument → Sendable → Client → World → Run
send_run x opcode as' s k w =
    in_world (λ v. cond s.message.destructor (off_roll x v) v) (resumed x.client (send_seat x opcode as' s (seat x.client k (from w))) (from w))

-- what a send does: nothing to a killed client
abbrev pub send_what : ObjectId → ℕ → List SendArgument → Client → World → Option Sendable → Done SendAnswer
send_what x opcode as' k w None = done NotSent (from w)
send_what x opcode as' k w (Some s) =
    done (send_answer (write_answer (sent_event x opcode as') (w.lines x.client.place)) (send_end x s)) (send_run x opcode as' s k w)

-- what a send does
abbrev pub send_act : ObjectId → ℕ → List SendArgument → World → SendingTo → Done SendAnswer
send_act x opcode as' w s = send_what x opcode as' s.client w s.what

-- look, set, find, next

-- what an object is
abbrev pub info_of : Owned → ObjectInfo
info_of at = record { row = at.object.row; version = at.object.version; mark = mark_of at }

-- what a set does
abbrev pub set_act : ObjectId → ℕ → World → Owned → Done (Unit {0})
set_act x d w at = done tt (mark_in x d at.client (from w))

-- the handle of an object, if there is one
abbrev pub handle_of : ClientId → ℕ → Option (Object ObjectData) → Option ObjectId
handle_of c id None = None
handle_of c id (Some o) = Some (record { client = c; id = id; serial = o.«data».serial; row = o.row })

-- the handle of a live id
abbrev pub handle_at : ClientId → Client → ℕ → Option ObjectId
handle_at c k id = handle_of c id (find_in k.map id)

-- the handle of an id, if there is one
abbrev pub handle_if : ClientId → Client → Option ℕ → Option ObjectId
handle_if c k None = None
handle_if c k (Some id) = handle_at c k id

-- the handle of the lowest live id above this one
abbrev pub next_handle : ClientId → Client → ℕ → Option ObjectId
next_handle c k id = handle_if c k (next_after k.map id)

-- post and kill: no effect on a killed client

-- a text that may be posted: at most 192 bytes, and none of them zero
abbrev pub postable : List ℕ → Bool
postable text = not (nat_lt 192 (length text)) && all (λ b. ltb 0 b) text

-- what a post must meet, in the order of the refusals
abbrev pub post_check : ObjectId → List ℕ → World → Result Client Refusal
post_check x text w = passing (unless (postable text) BadSize) (λ _. the_client w x.client)

-- a dead object is named by no event
abbrev pub post_seat : ObjectId → ℕ → List ℕ → Result (Object ObjectData) Refusal → Seat → Seat
post_seat x code text (Ok o) s = fail code x.id x.row text s
post_seat x code text (Err e) s = kill (ProtocolError (record { code = code; object = x.id; row = x.row })) (flush s)

-- what a post does
abbrev pub post_act : ObjectId → ℕ → List ℕ → World → Client → Done KillAnswer
post_act x code text w k =
    cond (is_live k.state) (done Killed (resumed x.client (post_seat x code text (the_object k x) (seat x.client k (from w))) (from w))) (done NoEffect (from w))

-- the row of a protocol error must exist
abbrev pub reason_check : Terms → DisconnectReason → Result (Unit {0}) Refusal
reason_check t ConnectionClosed = Ok tt
reason_check t (ProtocolError e) = passing (the_row t.rows e.row) (λ _. Ok tt)

-- what a kill must meet, in the order of the refusals
abbrev pub kill_check : Terms → ClientId → DisconnectReason → World → Result Client Refusal
kill_check t c r w = passing (the_client w c) (λ k. passing (reason_check t r) (λ _. Ok k))

-- what a kill does
abbrev pub kill_act : ClientId → DisconnectReason → World → Client → Done KillAnswer
kill_act c r w k = cond (is_live k.state) (done Killed (resumed c (kill r (seat c k (from w))) (from w))) (done NoEffect (from w))

-- add, disable, remove

-- what an addition must meet, in the order of the refusals
abbrev pub add_check : Terms → ℕ → ℕ → World → Result ℕ Refusal
add_check t row version w =
    passing (the_row t.rows row) (λ h.
    passing (unless (not (nat_lt h.version version)) VersionAbove) (λ _.
    present (first_vacant w.engine.registry.globals.places w.engine.registry.globals.len) NoVacancy))

-- a global that was just added
abbrev pub new_global : ℕ → ℕ → ℕ → World → Global
new_global row version handler w =
    record { serial = following w.engine.registry.last_serial; row = row; version = version; handler = handler; disabled = false }

-- the world with a global more
abbrev pub add_world : ℕ → Global → World → World
add_world p g w = with_registry (record {
  globals = entered_in (Some p) w.engine.registry.globals g;
  last_serial = following w.engine.registry.last_serial;
  roll = w.engine.registry.roll;
}) w

-- the new global is announced along the roll where the policy shows it
abbrev pub add_act : Terms → ℕ → ℕ → ℕ → World → ℕ → Done GlobalId
add_act t row version handler w p =
    let g = new_global row version handler w in
    done (global_id (p + 1) g) (along_roll (λ x s. announce t x (p + 1) g s) w.engine.registry.roll (from (add_world p g w)))

-- the global, announced no more
abbrev pub disabled_global : Global → Global
disabled_global g = record { serial = g.serial; row = g.row; version = g.version; handler = g.handler; disabled = true }

-- what stands under a name
abbrev pub global_put : ℕ → Option Global → World → World
global_put name g w = with_global (name - 1) g w

-- once, every registry of the roll hears that the global is gone
abbrev pub disable_run : GlobalId → World → Global → Run
disable_run i w g =
    cond g.disabled (from w) (along_roll (retract i.name) w.engine.registry.roll (from (global_put i.name (Some (disabled_global g)) w)))

-- what a disabling does
abbrev pub disable_act : GlobalId → World → Global → Done DisableAnswer
disable_act i w g = done (cond g.disabled Already Disabled) (disable_run i w g)

-- what a removal does
abbrev pub remove_act : GlobalId → World → Global → Done (Unit {0})
remove_act i w g = done tt (in_world (global_put i.name None) (disable_run i w g))

-- flush

-- what a flush does
abbrev pub flush_act : ClientId → World → Client → Done ℕ
flush_act c w k = done (carried (w.lines c.place)) (resumed c (flush (seat c k (from w))) (from w))

-- tidy: the lowest place of a killed client; its reason, then its objects one by one without delete_id, then itself

-- a killed client, and its place
pub record Found : Type 0 where
  pub place : ℕ
  pub client : Client

-- the client of this place if it is killed, else what is found behind it
abbrev pub found_at : ℕ → Client → Option Found → Option Found
found_at p k later = cond (is_live k.state) later (Some (record { place = p; client = k }))

-- the lowest place of a killed client; the first of the list has this number
abbrev pub lowest_killed : ℕ → List (Option Client) → Option Found
lowest_killed p [] = None
lowest_killed p (None ∷ ks) = lowest_killed (p + 1) ks
lowest_killed p (Some k ∷ ks) = found_at p k (lowest_killed (p + 1) ks)

-- its handle
abbrev pub found_id : Found → ClientId
found_id f = record { place = f.place; serial = f.client.serial }

-- its lowest object ends
abbrev pub tidy_end : ObjectId → Option (Object ObjectData) → Client → World → Done TidyAnswer
tidy_end x None k w = done Nothing (from w)
tidy_end x (Some o) k w =
    done (Ended (record { object = x; mark = o.«data».mark }))
    (in_world (off_roll x) (resumed x.client (remove x o.«data».mark (seat x.client k (from w))) (from w)))

-- by the client's own state, together with whether any object lives
abbrev pub tidy_act : ClientId → ClientState → Option ObjectId → Client → World → Done TidyAnswer
tidy_act c Live x k w = done Nothing (from w)
tidy_act c (Untold r) x k w =
    done (Reason (record { client = c; reason = r })) (resumed c (record { client = with_state Told k; line = w.lines c.place; acts = [] }) (from w))
tidy_act c Told (Some x) k w = tidy_end x (find_in k.map x.id) k w
tidy_act c Told None k w = done (Vacated c) (in_world (with_place c.place None) (resumed c (flush (seat c k (from w))) (from w)))

-- what a tidying does at the place that it found
abbrev pub tidy_at : Option Found → World → Done TidyAnswer
tidy_at None w = done Nothing (from w)
tidy_at (Some f) w = tidy_act (found_id f) f.client.state (next_handle (found_id f) f.client 0) f.client w

-- what a tidying does
abbrev pub tidy_done : World → Done TidyAnswer
tidy_done w = tidy_at (lowest_killed 0 w.engine.store.clients.places) w
