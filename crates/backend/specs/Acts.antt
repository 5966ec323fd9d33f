-- The parts that every call is made of. Each is about one client: its record, its line, and what was done to both.
use Rattle.std.specs.Prelude.{ℕ, cond, List, [], ◌∷◌, ◌++◌, map, Some, Ok, Err, Result, nat_lt}
use Rattle.map.specs.declared.DataMark.{DataMark}
use Rattle.map.specs.declared.Object.{Object}
use Rattle.map.specs.declared.ObjectData.{ObjectData}
use Rattle.map.specs.Map.{limit, inserted, removed}
use Rattle.message.specs.Events.{EventModel}
use Rattle.wire.specs.Line.{Line, write_answer, written, flushed as flushed_line}
use Rattle.wire.specs.declared.answers.WriteError.{WriteError}
use Rattle.backend.specs.declared.ids.ClientId.{ClientId}
use Rattle.backend.specs.declared.ids.ObjectId.{ObjectId}
use Rattle.backend.specs.declared.client.Client.{Client}
use Rattle.backend.specs.declared.client.ClientState.{ClientState}
use Rattle.backend.specs.declared.client.ClientState.TheVariants.{Live, Untold, Told}
use Rattle.backend.specs.declared.client.DisconnectReason.{DisconnectReason}
use Rattle.backend.specs.declared.client.DisconnectReason.TheVariants.{ConnectionClosed, ProtocolError}
use Rattle.backend.specs.declared.client.End.{End}
use Rattle.backend.specs.Events.{error_event, delete_id}
use Rattle.backend.specs.World.{World, is_live, with_state, with_map, next_serial, drawn, with_place, on_line}

-- what can be done to a client and its line
pub data Act : Type 0 where
  -- an object was entered
  entered : ObjectId → Act
  -- the end of one was told
  ended : End → Act
  -- the wire took an event, or refused it
  took : EventModel → Act
  refused : EventModel → Act
  -- the first request came off the line
  received : Act
  -- the events were carried away
  flushed : Act
  -- the line was opened for a new client
  opened : Act

-- an act, and the client that it is about
pub record Deed : Type 0 where
  pub client : ClientId
  pub act : Act

-- a client in its place, with its line, and what the call has done there so far, the latest first
pub record Seat : Type 0 where
  pub client : Client
  pub line : Line
  pub acts : List Act

-- a call under way: the world, and what the call has done so far, the latest first
pub record Run : Type 0 where
  pub world : World
  pub deeds : List Deed

-- nothing is done yet
abbrev pub from : World → Run
from w = record { world = w; deeds = [] }

-- the same call, in another world
abbrev pub in_world : (World → World) → Run → Run
in_world f r = record { world = f r.world; deeds = r.deeds }

-- a client k in its place
abbrev pub seat : ClientId → Client → Run → Seat
seat c k r = record { client = k; line = r.world.lines c.place; acts = [] }

-- what was done to one client
abbrev pub tagged : ClientId → List Act → List Deed
tagged c = map (λ (a : Act). record { client = c; act = a })

-- the world with what was done at a seat
abbrev pub seated : ClientId → Seat → World → World
seated c s w = with_place c.place (Some s.client) (on_line c.place (λ _. s.line) w)

-- the run with what was done at a seat
abbrev pub resumed : ClientId → Seat → Run → Run
resumed c s r = record { world = seated c s r.world; deeds = tagged c s.acts ++ r.deeds }

-- Killing.

-- the first reason stays
abbrev pub struck : DisconnectReason → ClientState → ClientState
struck r Live = Untold r
struck r (Untold q) = Untold q
struck r Told = Told

-- the client with that reason, if it is the first
abbrev pub killed : DisconnectReason → Client → Client
killed r k = with_state (struck r k.state) k

-- the client in its place is killed
abbrev pub kill : DisconnectReason → Seat → Seat
kill r s = record { client = killed r s.client; line = s.line; acts = s.acts }

-- Writing.

-- a write that is not taken kills the client as closed
abbrev pub lost : Result (Unit {0}) WriteError → Client → Client
lost (Ok u) k = k
lost (Err r) k = killed ConnectionClosed k

-- what the wire made of an event
abbrev pub heard : Result (Unit {0}) WriteError → EventModel → Act
heard (Ok u) e = took e
heard (Err r) e = refused e

-- an event is put to the wire
abbrev pub offer : EventModel → Seat → Seat
offer e s = record { client = lost (write_answer e s.line) s.client; line = written e s.line; acts = heard (write_answer e s.line) e ∷ s.acts }

-- a killed client gets no event
abbrev pub tell : EventModel → Seat → Seat
tell e s = cond (is_live s.client.state) (offer e s) s

-- all that waits on the line is carried away
abbrev pub flush : Seat → Seat
flush s = record { client = s.client; line = flushed_line s.line; acts = flushed ∷ s.acts }

-- a protocol error: the client is told, all that waits is carried to it, and it is killed
abbrev pub fail : ℕ → ℕ → ℕ → List ℕ → Seat → Seat
fail code object row text s =
    kill (ProtocolError (record { code = code; object = object; row = row })) (flush (tell (error_event object code text) s))

-- Entering.

-- the handle that an object entered now has
abbrev pub fresh : ClientId → ℕ → ℕ → Client → ObjectId
fresh c id row k = record { client = c; id = id; serial = next_serial k; row = row }

-- the object itself
abbrev pub new_object : ℕ → ℕ → DataMark → Client → Object ObjectData
new_object row version mark k = record { row = row; version = version; «data» = record { serial = next_serial k; mark = mark } }

-- an entry that succeeds, at an id
abbrev pub enter : ClientId → ℕ → ℕ → ℕ → DataMark → Seat → Seat
enter c id row version mark s = record {
  client = with_map (inserted s.client.map id (new_object row version mark s.client)) (drawn s.client);
  line = s.line;
  acts = entered (fresh c id row s.client) ∷ s.acts;
}

-- an entry that fails takes its serial
abbrev pub draw : Seat → Seat
draw s = record { client = drawn s.client; line = s.line; acts = s.acts }

-- Ending.

-- the object is removed, and its end is told
abbrev pub remove : ObjectId → DataMark → Seat → Seat
remove x mark s = record {
  client = with_map (removed s.client.map x.id) s.client;
  line = s.line;
  acts = ended (record { object = x; mark = mark }) ∷ s.acts;
}

-- an end: delete_id goes to the wire for an id of the client's half, also where the client is killed; then the object is removed
abbrev pub end : ObjectId → DataMark → Seat → Seat
end x mark s = remove x mark (cond (nat_lt x.id limit) (offer (delete_id x.id) s) s)
