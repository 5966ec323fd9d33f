-- What a step does with the first request of its client's line.
use Rattle.std.specs.Prelude.{◌≡◌, ℕ, ◌≤◌, Bool, true, false, ◌≢◌, [], length, is_some, Some, None, Ok, Err, Option}
use Rattle.map.specs.declared.DataMark.TheVariants.{Own, Awaited}
use Rattle.map.specs.declared.Object.{Object}
use Rattle.map.specs.declared.ObjectData.{ObjectData}
use Rattle.map.specs.Map.{find_in}
use Rattle.protocol.specs.declared.refusal.Refusal.{Refusal}
use Rattle.protocol.specs.declared.refusal.Refusal.TheVariants.{TicketOutstanding, DeadObject}
use Rattle.protocol.specs.Kinds.{is_new_id, agree}
use Rattle.protocol.specs.Lawful.{Lawful}
use Rattle.protocol.specs.Meaning.{request_in}
use Rattle.protocol.specs.Model.{MessageModel}
use Rattle.protocol.specs.Tallies.{count}
use Rattle.queue.specs.Ring.{front, others}
use Rattle.wire.specs.Line.{Waiting, Content}
use Rattle.backend.specs.declared.ids.ClientId.{ClientId}
use Rattle.backend.specs.declared.ids.ObjectId.{ObjectId}
use Rattle.backend.specs.declared.client.Client.{Client}
use Rattle.backend.specs.declared.client.ClientState.TheVariants.{Untold}
use Rattle.backend.specs.declared.client.DisconnectReason.TheVariants.{ConnectionClosed}
use Rattle.backend.specs.declared.client.End.{End}
use Rattle.backend.specs.declared.ticket.Origin.{Origin}
use Rattle.backend.specs.declared.ticket.Making.{Making as MakingRequest}
use Rattle.backend.specs.declared.answers.StepAnswer.{StepAnswer}
use Rattle.backend.specs.declared.answers.StepAnswer.TheVariants.{Idle, Closed, Synced, Registered, Plain, Making, Failed}
use Rattle.backend.specs.declared.answers.ObjectInfo.{ObjectInfo}
use Rattle.backend.specs.Tickets.{PlainTicket, MakingTicket}
use Rattle.backend.specs.World.{Terms, World, client_at, with_state}
use Rattle.backend.specs.Acts.{from}
use Rattle.backend.specs.Requests.{Buffers, origin_of}
use Rattle.backend.specs.Perform.{step, stepped, look, looked, perform, buffers_after}
use Rattle.engine_laws.specs.Touched.{OnRoll}
use Rattle.accounts.specs.Shown.{Ticket, plain, making, ticket_of}

-- a step of this client, with these buffers, gives this answer
abbrev pub Answers : Terms → ClientId → Buffers → World → StepAnswer → Type 0
Answers t c b w a = (perform t (step c b) w).answer ≡ stepped (Ok a)

-- the client is killed as closed, nothing is entered, ended or told, and every line and the buffers stay
pub record KillsAlone (t : Terms) (c : ClientId) (b : Buffers) (w : World) (k : Client) : Type 0 where
  pub killed : client_at (perform t (step c b) w).run.world c ≡ Some (with_state (Untold ConnectionClosed) k)
  pub no_deeds : (perform t (step c b) w).run.deeds ≡ []
  pub lines : (p : ℕ) → (perform t (step c b) w).run.world.lines p ≡ w.lines p
  pub buffers : buffers_after t c b w ≡ b

-- when a step is idle, and when it finds the line broken
pub record StepsAreNotIdle : Type 0 where
  -- A step on a line with a request waiting is never idle: it is so only where no request waits on its client's line, and the line is
  -- not broken.
  pub idle : (t : Terms) (c : ClientId) (b : Buffers) (w : World) → Answers t c b w Idle → ((w.lines c.place).requests ≡ []) × ((w.lines c.place).broken ≡ false)
  -- Nor does it give up a broken line before its last request: it closes only where none waits.
  pub closed : (t : Terms) (c : ClientId) (b : Buffers) (w : World) → Answers t c b w Closed → ((w.lines c.place).requests ≡ []) × ((w.lines c.place).broken ≡ true)
  -- A step that is not refused is idle wherever no request waits and the line is not broken,
  pub nothing_waits : (t : Terms) (c : ClientId) (b : Buffers) (w : World) (a : StepAnswer) → Answers t c b w a → (w.lines c.place).requests ≡ [] → (w.lines c.place).broken ≡ false → a ≡ Idle
  -- and closes wherever none waits and the line is broken.
  pub broken : (t : Terms) (c : ClientId) (b : Buffers) (w : World) (a : StepAnswer) → Answers t c b w a → (w.lines c.place).requests ≡ [] → (w.lines c.place).broken ≡ true → a ≡ Closed
  -- An idle step changes nothing, neither in the world nor in the buffers.
  pub idle_leaves : (t : Terms) (c : ClientId) (b : Buffers) (w : World) → Answers t c b w Idle → ((perform t (step c b) w).run ≡ from w) × (buffers_after t c b w ≡ b)
  -- A step that closes kills its client, as closed, and does nothing besides.
  pub closed_kills : (t : Terms) (c : ClientId) (b : Buffers) (w : World) (k : Client) → Answers t c b w Closed → client_at w c ≡ Some k → KillsAlone t c b w k

-- a sync or a get_registry, which the engine answers itself
abbrev pub by_engine : StepAnswer → Bool
by_engine Idle = false
by_engine Closed = false
by_engine (Synced e) = true
by_engine (Registered x) = true
by_engine (Plain x) = false
by_engine (Making x) = false
by_engine (Failed e) = false

-- The request that a step reads: the first of its client's line. A live object of the client sent it, the object's interface has a
-- request of that opcode, and it has the form of that request's signature.
pub record Request (t : Terms) (c : ClientId) (w : World) : Type 0 where
  pub client : Client
  pub waiting : Waiting
  pub sender : Object ObjectData
  pub message : MessageModel
  pub content : Content
  pub there : client_at w c ≡ Some client
  pub first : front (w.lines c.place).requests ≡ Some waiting
  pub alive : find_in client.map waiting.sender ≡ Some sender
  pub known : request_in t.rows sender.row waiting.opcode ≡ Some message
  pub formed : waiting.content message.kinds ≡ Some content

module _ {t : Terms} {c : ClientId} {w : World} (r : Request t c w) where
  -- what every ticket of the request says
  abbrev pub origin : Origin
  origin = origin_of c r.waiting.sender r.waiting.opcode r.sender r.message

  -- how many of its arguments are new ids, by its signature
  abbrev pub new_ids : ℕ
  new_ids = count is_new_id r.message.kinds

  -- it is wl_display.sync, and its callback, a wl_callback, has ended
  pub record IsSync (e : End) (after : World) : Type 0 where
    pub of_display : r.sender.row ≡ 1
    pub opcode : r.waiting.opcode ≡ 0
    pub callback : e.object.row ≡ 3
    pub whose : e.object.client ≡ c
    pub ended : (perform t (look e.object) after).answer ≡ looked (Err DeadObject)

  -- it is wl_display.get_registry, and made this wl_registry, which is live and on the roll
  pub record IsGetRegistry (x : ObjectId) (after : World) : Type 0 where
    pub of_display : r.sender.row ≡ 1
    pub opcode : r.waiting.opcode ≡ 1
    pub registry : x.row ≡ 2
    pub whose : x.client ≡ c
    pub live : (info : ObjectInfo) × ((perform t (look x) after).answer ≡ looked (Ok info)) × (info.mark ≡ Own)
    pub on_roll : OnRoll x after.engine.registry.roll

  -- It is neither the display's nor a registry's, and makes no object: where its arguments agree with its signature, as those that a
  -- wire reads do, none is a new id.
  pub record IsPlain (o : Origin) : Type 0 where
    pub not_display : r.sender.row ≢ 1
    pub not_registry : r.sender.row ≢ 2
    pub says : o ≡ origin
    pub makes_none : agree r.message.kinds r.content.arguments ≡ true → new_ids ≡ 0

  -- It is not the display's, and makes one object, which is live in the world after and waits for its data; a registry's names a
  -- global, and any other has the child row of its message.
  pub record IsMaking (x : MakingRequest) (after : World) : Type 0 where
    pub not_display : r.sender.row ≢ 1
    pub says : x.origin ≡ origin
    pub makes_one : new_ids ≡ 1
    pub child_waits : (info : ObjectInfo) × ((perform t (look x.child) after).answer ≡ looked (Ok info)) × (info.row ≡ x.child.row) × (info.mark ≡ Awaited)
    pub bind : r.sender.row ≡ 2 → is_some x.bound ≡ true
    pub other : r.sender.row ≢ 2 → (x.bound ≡ None) × (r.message.child ≡ Some x.child.row)

  -- the answer is the one that its sender's interface and its signature call for
  pub record CallsFor (a : StepAnswer) : Type 0 where
    pub of_display : r.sender.row ≡ 1 → by_engine a ≡ true
    pub without_new_id : r.sender.row ≢ 1 → new_ids ≡ 0 → (x : PlainTicket) × (a ≡ Plain x)
    pub with_new_id : r.sender.row ≢ 1 → new_ids ≡ 1 → (x : MakingTicket) × (a ≡ Making x)

-- the ticket that an answer hands out
abbrev pub ticket_in : StepAnswer → Option Ticket
ticket_in Idle = None
ticket_in Closed = None
ticket_in (Synced e) = None
ticket_in (Registered x) = None
ticket_in (Plain x) = Some (plain x.request)
ticket_in (Making x) = Some (making x.request.origin x.request.child x.request.bound)
ticket_in (Failed e) = None

-- the request broke a rule
abbrev pub at_fault : StepAnswer → Bool
at_fault Idle = false
at_fault Closed = false
at_fault (Synced e) = false
at_fault (Registered x) = false
at_fault (Plain x) = false
at_fault (Making x) = false
at_fault (Failed e) = true

-- the world after a step
abbrev pub after : Terms → ClientId → Buffers → World → World
after t c b w = (perform t (step c b) w).run.world

-- the step took its client's first request off the line
abbrev pub Takes : Terms → ClientId → Buffers → World → Type 0
Takes t c b w = ((after t c b w).lines c.place).requests ≡ others (w.lines c.place).requests

-- what a request that breaks no rule comes to
pub record SoundRequestsHandOut : Type 0 where
  -- Where a request waits, a step that is not refused hands out a ticket, unless the request broke a rule or is one that the engine
  -- answers itself.
  pub hands_out : (t : Terms) (c : ClientId) (b : Buffers) (w : World) (a : StepAnswer) → Answers t c b w a → is_some (front (w.lines c.place).requests) ≡ true
      → at_fault a ≡ false → by_engine a ≡ false → is_some (ticket_in a) ≡ true
  -- After a step that is not refused, the ticket that it handed out is outstanding, and none where it handed out none.
  pub outstanding : (t : Terms) (c : ClientId) (b : Buffers) (w : World) (a : StepAnswer) → Answers t c b w a → ticket_of (after t c b w).engine.outstanding ≡ ticket_in a
  -- While a ticket is outstanding every step is refused, whosever the ticket is,
  pub one_at_a_time : (t : Terms) (c : ClientId) (b : Buffers) (w : World) (x : Ticket) → ticket_of w.engine.outstanding ≡ Some x
      → (e : Refusal) × ((perform t (step c b) w).answer ≡ stepped (Err e))
  -- and for that reason, where its buffers are large enough.
  pub refused_for_that : (t : Terms) (c : ClientId) (b : Buffers) (w : World) (x : Ticket) → ticket_of w.engine.outstanding ≡ Some x
      → 192 ≤ length b.text → 4096 ≤ length b.body → (perform t (step c b) w).answer ≡ stepped (Err TicketOutstanding)
  -- The engine answers a sync and a get_registry itself, and no other request;
  pub synced : (t : Terms) → Lawful t.rows → (c : ClientId) (b : Buffers) (w : World) (e : End) → Answers t c b w (Synced e) → ((r : Request t c w) × IsSync r e (after t c b w)) × Takes t c b w
  pub registered : (t : Terms) → Lawful t.rows → (c : ClientId) (b : Buffers) (w : World) (x : ObjectId) → Answers t c b w (Registered x) → ((r : Request t c w) × IsGetRegistry r x (after t c b w)) × Takes t c b w
  -- a plain ticket is of a request that makes no object,
  pub plain : (t : Terms) → Lawful t.rows → (c : ClientId) (b : Buffers) (w : World) (x : PlainTicket) → Answers t c b w (Plain x) → ((r : Request t c w) × IsPlain r x.request) × Takes t c b w
  -- and a making ticket of one that makes an object.
  pub making : (t : Terms) → Lawful t.rows → (c : ClientId) (b : Buffers) (w : World) (x : MakingTicket) → Answers t c b w (Making x) → ((r : Request t c w) × IsMaking r x.request (after t c b w)) × Takes t c b w
  -- So which it is, the request tells: where it breaks no rule, and its arguments agree with its signature, one of the display's is
  -- answered by the engine, and any other gets a making ticket where one of its arguments is a new id, and a plain one where none is.
  pub exactly : (t : Terms) → Lawful t.rows → (c : ClientId) (b : Buffers) (w : World) (r : Request t c w) (a : StepAnswer) → Answers t c b w a → at_fault a ≡ false
      → agree r.message.kinds r.content.arguments ≡ true → CallsFor r a
