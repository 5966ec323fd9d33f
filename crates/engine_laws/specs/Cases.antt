-- Nine worked cases of what a step does, each at a client that was just admitted.
use Rattle.std.specs.Prelude.{◌≡◌, ℕ, suc, ◌+◌, ◌≤◌, true, List, [], ◌∷◌, ◌++◌, length, is_some, codes, Some, None, Ok}
use Rattle.map.specs.declared.DataMark.TheVariants.{Own}
use Rattle.map.specs.declared.fault.MapFault.TheVariants.{Beyond, Taken, Full}
use Rattle.protocol.specs.declared.argument.Argument.{Argument}
use Rattle.protocol.specs.declared.argument.Argument.TheVariants.{NewId}
use Rattle.protocol.specs.declared.argument.ArgumentType.{ArgumentType}
use Rattle.protocol.specs.declared.argument.ArgumentType.TheVariants as kind
use Rattle.protocol.specs.Lawful.{Lawful}
use Rattle.protocol.specs.Meaning.{request_in}
use Rattle.protocol.specs.Model.{MessageModel}
use Rattle.message.specs.declared.part.Part.{Part}
use Rattle.wire.specs.Line.{Line, Waiting}
use Rattle.backend.specs.declared.ids.ClientId.{ClientId}
use Rattle.backend.specs.declared.ids.ObjectId.{ObjectId}
use Rattle.backend.specs.declared.client.Client.{Client}
use Rattle.backend.specs.declared.client.ClientState.TheVariants.{Untold}
use Rattle.backend.specs.declared.client.DisconnectReason.TheVariants.{ProtocolError}
use Rattle.backend.specs.declared.faults.ClientFault.{ClientFault}
use Rattle.backend.specs.declared.faults.ClientFault.TheVariants.{Entry}
use Rattle.backend.specs.declared.faults.StepFault.{StepFault}
use Rattle.backend.specs.declared.faults.StepFault.TheVariants as fault
use Rattle.backend.specs.declared.ticket.Outstanding.TheVariants.{Nothing}
use Rattle.backend.specs.declared.answers.StepAnswer.TheVariants.{Synced, Registered, Failed}
use Rattle.backend.specs.Events.{error_event, delete_id, done_event}
use Rattle.backend.specs.Texts.{name_in, invalid_method}
use Rattle.backend.specs.World.{Terms, World, new_engine, client_at, on_line}
use Rattle.backend.specs.Acts.{ended, took, received, flushed as carried, tagged}
use Rattle.backend.specs.Registries.{roll_end}
use Rattle.backend.specs.Requests.{Buffers}
use Rattle.backend.specs.Calls.{roomy}
use Rattle.backend.specs.Perform.{admit, step, create, destroy, find, flush, admitted, stepped, created, destroyed, found, Outcome, perform}
use Rattle.accounts.specs.Histories.{gained}

-- A client was just admitted, and c is its handle. The catalogue keeps its laws, no ticket is out, and the line of the client takes at
-- least two events from when it is opened, and from each flush, to the next flush.
pub record Admitted (t : Terms) (d : ℕ) (w : World) (c : ClientId) : Type 0 where
  pub lawful : Lawful t.rows
  pub answers : (perform t (admit d) w).answer ≡ admitted (Ok c)
  pub no_ticket : w.engine.outstanding ≡ Nothing
  pub allowed : 2 ≤ (w.lines c.place).limit

-- the world right after the admission
abbrev pub welcomed : Terms → ℕ → World → World
welcomed t d w = (perform t (admit d) w).run.world

-- A request of this sender and opcode, which says these arguments under the signature of these kinds.
pub record Asks (r : Waiting) (sender opcode : ℕ) (kinds : List ArgumentType) (arguments : List (Argument ℕ Part)) : Type 0 where
  pub sender_is : r.sender ≡ sender
  pub opcode_is : r.opcode ≡ opcode
  pub says : (body : List ℕ) × (r.content kinds ≡ Some (record { arguments = arguments; body = body }))

-- wl_display.sync and wl_display.get_registry, with this new id
abbrev pub AsksSync : Waiting → ℕ → Type 0
AsksSync r id = Asks r 1 0 (kind.NewId ∷ []) (NewId id ∷ [])

-- the request is get_registry with this new id
abbrev pub AsksRegistry : Waiting → ℕ → Type 0
AsksRegistry r id = Asks r 1 1 (kind.NewId ∷ []) (NewId id ∷ [])

-- the request comes to the end of the client's line
abbrev pub asking : ClientId → Waiting → World → World
asking c r w = on_line c.place (gained (r ∷ [])) w

-- and then the server takes the client's next step
abbrev pub stepping : Terms → ClientId → Buffers → Waiting → World → Outcome
stepping t c b r w = perform t (step c b) (asking c r w)

-- A client asks for sync n times, with the new ids 2, 3, .. in turn; the server takes each step, and flushes. The first world is the one
-- before, the second the one after.
pub data Syncs (t : Terms) (c : ClientId) (before : World) : ℕ → World → Type 0 where
  none : Syncs t c before 0 before
  more : {n : ℕ} {w : World} (b : Buffers) (r : Waiting) → roomy b ≡ true → AsksSync r (n + 2) → Syncs t c before n w
      → Syncs t c before (suc n) (perform t (flush c) (stepping t c b r w).run.world).run.world

-- the first object of a client after the display has the serial 1
abbrev pub first_object : ClientId → ℕ → ℕ → ObjectId
first_object c id row = record { client = c; id = id; serial = 1; row = row }

-- get_registry enters its new id: the answer is the registry's handle, and find then gives it for the id
pub record Enters (t : Terms) (c : ClientId) (id : ℕ) (o : Outcome) : Type 0 where
  pub answers : o.answer ≡ stepped (Ok (Registered (first_object c id 2)))
  pub finds : (perform t (find c id) o.run.world).answer ≡ found (Ok (Some (first_object c id 2)))

-- A step fails: the answer names the fault; the request comes off the line, wl_display.error goes to the wire, about object 1 and with
-- this code and text, and what waits there is carried away; and the client is killed for that error.
pub record Fails (c : ClientId) (f : StepFault) (code : ℕ) (text : List ℕ) (o : Outcome) : Type 0 where
  pub answers : o.answer ≡ stepped (Ok (Failed (record { fault = f; entered = None; text = length text })))
  pub told : o.run.deeds ≡ tagged c (carried ∷ took (error_event 1 code text) ∷ received ∷ [])
  pub killed : (k : Client) × (client_at o.run.world c ≡ Some k) × (k.state ≡ Untold (ProtocolError (record { code = code; object = 1; row = 1 })))

-- the fault of the first argument
abbrev pub first_argument : ClientFault → StepFault
first_argument f = fault.Argument (record { index = 0; fault = f })

-- a sync's callback enters and ends: the answer is its end, and the events of the line are those before, then done and delete_id
pub record SyncsOnce (c : ClientId) (id : ℕ) (before : World) (o : Outcome) : Type 0 where
  pub answers : o.answer ≡ stepped (Ok (Synced (record { object = first_object c id 3; mark = Own })))
  pub events_are : (o.run.world.lines c.place).events ≡ (before.lines c.place).events ++ done_event id ∷ delete_id id ∷ []

-- an object of the server's half is destroyed: its end is the answer and all that was done, and the line stays as it was
pub record Ends (c : ClientId) (x : ObjectId) (before : World) (o : Outcome) : Type 0 where
  pub answers : o.answer ≡ destroyed (Ok (record { object = x; mark = Own }))
  pub told : o.run.deeds ≡ tagged c (ended (record { object = x; mark = Own }) ∷ [])
  pub line_stays : o.run.world.lines c.place ≡ before.lines c.place

-- The cases, for any terms, any world in which a client is admitted, and any buffers that are large enough.
pub record WorkedCases (t : Terms) (d : ℕ) (w : World) (c : ClientId) (b : Buffers) : Type 0 where
  -- the new id 2 enters, where the roll of registries has a place
  pub two_enters : (r : Waiting) → AsksRegistry r 2 → is_some (roll_end w.engine.registry.roll) ≡ true → Enters t c 2 (stepping t c b r (welcomed t d w))
  -- 3 is beyond: an invalid object, which is code 0
  pub three_beyond : (r : Waiting) → AsksRegistry r 3 → Fails c (first_argument (Entry Beyond)) 0 (codes "Invalid new_id: 3.") (stepping t c b r (welcomed t d w))
  -- 0xFF000000, the first id of the server's half, enters
  pub server_half_enters : (r : Waiting) → AsksRegistry r 0xFF00_0000 → is_some (roll_end w.engine.registry.roll) ≡ true
      → Enters t c 0xFF00_0000 (stepping t c b r (welcomed t d w))
  -- 1 is taken, by the display: an invalid object again
  pub one_taken : (r : Waiting) → AsksRegistry r 1 → Fails c (first_argument (Entry Taken)) 0 (codes "Invalid new_id: 1.") (stepping t c b r (welcomed t d w))
  -- sync with the new id 2: the callback enters and ends, and wl_callback.done and delete_id 2 come last on the line, in that order
  pub sync_tells : (r : Waiting) → AsksSync r 2 → SyncsOnce c 2 (asking c r (welcomed t d w)) (stepping t c b r (welcomed t d w))
  -- 63 syncs use all 64 places of the client's half: its length, which counts the places ever used, is 64 (63 of them are vacant again)
  pub half_used : (v : World) → Syncs t c (welcomed t d w) 63 v → (k : Client) × (client_at v c ≡ Some k) × (k.map.client_objects.len ≡ 64)
  -- then 65 is full: no memory, which is code 2
  pub last_full : (v : World) → Syncs t c (welcomed t d w) 63 v → (r : Waiting) → AsksSync r 65
      → Fails c (first_argument (Entry Full)) 2 (codes "No memory.") (stepping t c b r v)
  -- and 66 is beyond: an invalid object
  pub past_beyond : (v : World) → Syncs t c (welcomed t d w) 63 v → (r : Waiting) → AsksSync r 66
      → Fails c (first_argument (Entry Beyond)) 0 (codes "Invalid new_id: 66.") (stepping t c b r v)
  -- A request of version 2, to an object of version 1 that the server created for the client, is an invalid method: code 1.
  pub too_new : (row opcode e : ℕ) (m : MessageModel) → request_in t.rows row opcode ≡ Some m → m.since ≡ 2 → (arguments : List (Argument ℕ Part)) (r : Waiting)
      → Asks r 0xFF00_0000 opcode m.kinds arguments
      → ((perform t (create c row 1 e) (welcomed t d w)).answer ≡ created (Ok (first_object c 0xFF00_0000 row)))
      × Fails c fault.TooNew 1 (invalid_method opcode 1 2 (name_in t.rows row) 0xFF00_0000) (stepping t c b r (perform t (create c row 1 e) (welcomed t d w)).run.world)
  -- the end of 0xFF000000 sends no delete_id: the line stays as it was
  pub server_half_ends : (r : Waiting) → AsksRegistry r 0xFF00_0000 → is_some (roll_end w.engine.registry.roll) ≡ true
      → Ends c (first_object c 0xFF00_0000 2) (stepping t c b r (welcomed t d w)).run.world
      (perform t (destroy (first_object c 0xFF00_0000 2)) (stepping t c b r (welcomed t d w)).run.world)

-- the worked cases stand, and there is a client that they are about
pub record CasesStand : Type 0 where
  -- the cases stand of any client that was just admitted
  pub stand : (t : Terms) (d : ℕ) (w : World) (c : ClientId) (b : Buffers) → Admitted t d w c → roomy b ≡ true → WorkedCases t d w c b
  -- and there is such a client: the first of a new engine, whose roll has a place
  pub first_client : (t : Terms) (d : ℕ) (lines : ℕ → Line) → Lawful t.rows → 2 ≤ (lines 0).limit
      → Admitted t d (record { engine = new_engine; lines = lines }) (record { place = 0; serial = 1 }) × (is_some (roll_end new_engine.registry.roll) ≡ true)
