-- From what is known of a request to what a step of its client answers.
use Rattle.std.proofs.Common.{◌≡◌, ℕ, ◌≤◌, Bool, true, false, eqb, ltb, not, ◌⊎◌, List, [], ◌∷◌, length, is_some, Some, None, Ok, Err, Option, Result, sym, refl, ap, ◌∙◌, subst, inl, inr, ⊎_elim, arith}
use Rattle.std.proofs.lemmas.Bool.{cond-true, cond-false, cases_Bool, eq-eqb, le-ltb, and_from, false≢true}
use Rattle.map.specs.declared.DataMark.TheVariants.{Own, Awaited}
use Rattle.map.specs.declared.DataMark.{DataMark}
use Rattle.map.specs.Named.{agreeing}
use Rattle.map.specs.declared.Object.{Object}
use Rattle.map.specs.declared.ObjectData.{ObjectData}
use Rattle.map.specs.Map.{find_in}
use Rattle.laws.proofs.Lookup.{answers}
use Rattle.protocol.specs.declared.argument.ArgumentType.{ArgumentType}
use Rattle.protocol.specs.declared.refusal.Refusal.{Refusal}
use Rattle.protocol.specs.declared.refusal.Refusal.TheVariants.{BadSize, TicketOutstanding, NoClient, ClientKilled, DeadObject}
use Rattle.protocol.specs.Kinds.{is_new_id, agree}
use Rattle.protocol.specs.Lawful.{Lawful}
use Rattle.protocol.specs.Tallies.{count}
use Rattle.protocol.specs.Meaning.{request_in}
use Rattle.protocol.specs.Model.{MessageModel}
use Rattle.queue.specs.Ring.{front, others}
use Rattle.wire.specs.declared.answers.Head.TheVariants as head
use Rattle.wire.specs.Line.{Line, Waiting, Content, headed, content_of, reads, rest}
use Rattle.backend.specs.declared.ids.ClientId.{ClientId}
use Rattle.backend.specs.declared.ids.ObjectId.{ObjectId}
use Rattle.backend.specs.declared.client.Client.{Client}
use Rattle.backend.specs.declared.ticket.Outstanding.{Outstanding}
use Rattle.backend.specs.declared.ticket.Outstanding.TheVariants as out
use Rattle.backend.specs.declared.answers.StepAnswer.{StepAnswer}
use Rattle.backend.specs.declared.answers.StepAnswer.TheVariants.{Idle, Closed, Synced, Registered, Plain, Making, Failed}
use Rattle.backend.specs.Ids.{local_of}
use Rattle.backend.specs.World.{Terms, World, client_at, is_live}
use Rattle.backend.specs.Acts.{Seat, Run, from, seat}
use Rattle.backend.specs.Checks.{passing, present, alive, unless, the_client, the_object, Owned}
use Rattle.backend.specs.Requests.{Buffers, Stepped, Place, origin_of, received_at, filled, read_in, of_message, of_sender, stepped as stepped_at}
use Rattle.backend.specs.Calls.{is_free, roomy, step_of, step_run, step_act, info_of}
use Rattle.backend.specs.Perform.{step, look, stepped, looked, checked, told as told_by, perform}
use Rattle.accounts.specs.Shown.{Ticket, ticket_of}
use Rattle.accounts.proofs.Books.{some_is, not_vacant}
use Rattle.accounts.proofs.Kept.{client_same}
use Rattle.engine_laws.specs.Steps.{Answers, Request, IsSync, IsGetRegistry, IsPlain, IsMaking, CallsFor, new_ids, ticket_in, by_engine, at_fault, after, Takes, SoundRequestsHandOut}
use Rattle.engine_laws.proofs.StepLemmas.{taken, known, works}
use Rattle.engine_laws.specs.Touched.{OnRoll}
use Rattle.engine_laws.proofs.TicketLemmas.{Fits, dispatched_comes}

-- a look finds what is there
look_found : (t : Terms) (v : World) (x : ObjectId) (k : Client) (o : Object ObjectData) → client_at v x.client ≡ Some k → find_in k.map x.id ≡ Some o → o.«data».serial ≡ x.serial → o.row ≡ x.row
    → (perform t (look x) v).answer ≡ looked (Ok (info_of (record { client = k; object = o })))
look_found t v x k o there found serial row =
    ap (λ (r : Result Owned Refusal). (told_by looked r v info_of).answer)
    (ap (λ (r : Result Client Refusal). passing r (λ (q : Client). passing (the_object q x) (λ (y : Object ObjectData). Ok (record { client = q; object = y }))))
    (ap (λ (z : Option Client). present z NoClient) there)
    ∙ ap (λ (r : Result (Object ObjectData) Refusal). passing r (λ (y : Object ObjectData). Ok (record { client = k; object = y })))
    (ap alive (answers k.map (local_of x) o (record { live = found; serial_agrees = serial; row_agrees = row }))))

-- and finds nothing where no object has the id
look_gone : (t : Terms) (v : World) (x : ObjectId) (k : Client) → client_at v x.client ≡ Some k → find_in k.map x.id ≡ None → (perform t (look x) v).answer ≡ looked (Err DeadObject)
look_gone t v x k there gone =
    ap (λ (r : Result Owned Refusal). (told_by looked r v info_of).answer)
    (ap (λ (r : Result Client Refusal). passing r (λ (q : Client). passing (the_object q x) (λ (y : Object ObjectData). Ok (record { client = q; object = y }))))
    (ap (λ (z : Option Client). present z NoClient) there)
    ∙ ap (λ (f : Option (Object ObjectData)). passing (alive (agreeing f (local_of x))) (λ (y : Object ObjectData). Ok (record { client = k; object = y }))) gone)

module _ (t : Terms) (lawful : Lawful t.rows) (c : ClientId) (b : Buffers) (w : World) where
  abbrev line : Line
  line = w.lines c.place

  abbrev place : Place
  place = record { terms = t; registry = w.engine.registry; client = c }

  -- what was looked up for a request
  record Reads (k : Client) (q : Waiting) : Type 0 where
    object : Object ObjectData
    message : MessageModel
    content : Content
    alive : find_in k.map q.sender ≡ Some object
    known : request_in t.rows object.row q.opcode ≡ Some message
    formed : q.content message.kinds ≡ Some content

  abbrev Broke : StepAnswer → Type 0
  Broke Idle = ⊥
  Broke Closed = ⊥
  Broke (Synced e) = ⊥
  Broke (Registered x) = ⊥
  Broke (Plain x) = ⊥
  Broke (Making x) = ⊥
  Broke (Failed e) = Unit {0}

  abbrev FitsRead : (k : Client) (q : Waiting) → Reads k q → StepAnswer → Seat → List (Option ObjectId) → Type 0
  FitsRead k q d a s roll = Fits place lawful k (others line.requests) q.sender q.opcode d.object d.message d.content.arguments a s roll

  abbrev Looked : Client → Waiting → Stepped → Type 0
  Looked k q r = Broke r.answer ⊎ ((d : Reads k q) × FitsRead k q d r.answer r.seat r.roll)

  module _ (k : Client) (there : client_at w c ≡ Some k) (q : Waiting) (qs : List Waiting) (first : line.requests ≡ q ∷ qs) where
    abbrev s : Seat
    s = seat c k (from w)

    read_formed : (size : ℕ) (kinds : List ArgumentType) (y : Content) → reads size kinds line ≡ Some y → q.content kinds ≡ Some y
    read_formed size kinds y e =
        ⊎_elim (λ h. absurd (not_vacant None y (sym (cond-true (ltb size 4096) None _ h) ∙ e) refl))
        (λ h. ap (λ (rs : List Waiting). content_of kinds (front rs)) (sym first) ∙ (sym (cond-false (ltb size 4096) None _ h) ∙ e))
        (cases_Bool (ltb size 4096))

    read_looked : (x : Object ObjectData) (m : MessageModel) → find_in k.map q.sender ≡ Some x → request_in t.rows x.row q.opcode ≡ Some m → (v : Option Content) → reads (length b.body) m.kinds line ≡ v
        → Looked k q (read_in place (origin_of c q.sender q.opcode x m) x m v s b)
    read_looked x m a n None e = inl tt
    read_looked x m a n (Some y) e =
        inr (
          record { object = x; message = m; content = y; alive = a; known = n; formed = read_formed (length b.body) m.kinds y e },
          dispatched_comes place lawful k (others line.requests) q.sender q.opcode x m y.arguments (received_at m s b) (filled y b) (ap (λ (v : Option Content). rest v line.requests) e) refl n,
        )

    message_looked : (x : Object ObjectData) → find_in k.map q.sender ≡ Some x → (v : Option MessageModel) → request_in t.rows x.row q.opcode ≡ v → Looked k q (of_message place q.sender q.opcode x v s b)
    message_looked x a None e = inl tt
    message_looked x a (Some m) e = read_looked x m a e (reads (length b.body) m.kinds line) refl

    sender_looked : (v : Option (Object ObjectData)) → find_in k.map q.sender ≡ v → Looked k q (of_sender place q.sender q.opcode v s b)
    sender_looked None e = inl tt
    sender_looked (Some x) e = message_looked x e (request_in t.rows x.row q.opcode) refl

  -- what is told of an answer
  abbrev Told : StepAnswer → Type 0
  Told Idle = Unit {0}
  Told Closed = Unit {0}
  Told (Synced e) = ((r : Request t c w) × IsSync r e (after t c b w)) × Takes t c b w
  Told (Registered x) = ((r : Request t c w) × IsGetRegistry r x (after t c b w)) × Takes t c b w
  Told (Plain x) = ((r : Request t c w) × IsPlain r x.request) × Takes t c b w
  Told (Making x) = ((r : Request t c w) × IsMaking r x.request (after t c b w)) × Takes t c b w
  Told (Failed e) = Unit {0}

  broke_told : (a : StepAnswer) → Broke a → Told a
  broke_told Idle f = tt
  broke_told Closed f = tt
  broke_told (Synced e) f = absurd f
  broke_told (Registered x) f = absurd f
  broke_told (Plain x) f = absurd f
  broke_told (Making x) f = absurd f
  broke_told (Failed e) f = tt

  module _ (k : Client) (there : client_at w c ≡ Some k) (q : Waiting) (qs : List Waiting) (first : line.requests ≡ q ∷ qs) (r : Stepped) (runs : (perform t (step c b) w).run ≡ step_run c w r) where
    abbrev requested : Reads k q → Request t c w
    requested d = record {
      client = k;
      waiting = q;
      sender = d.object;
      message = d.message;
      content = d.content;
      there = there;
      first = ap (λ (rs : List Waiting). front rs) first;
      alive = d.alive;
      known = d.known;
      formed = d.formed;
    }

    takes : r.seat.line.requests ≡ others line.requests → Takes t c b w
    takes e =
        ap (λ (v : Run). (v.world.lines c.place).requests) runs
        ∙ (ap (λ (l : Line). l.requests) (cond-true (eqb c.place c.place) r.seat.line line (eq-eqb c.place c.place refl)) ∙ e)

    client_after : r.seat.client.serial ≡ k.serial → client_at (after t c b w) c ≡ Some r.seat.client
    client_after serial = ap (λ (v : Run). client_at v.world c) runs ∙ client_same w c k there r.seat.client serial

    -- an object that is live at the end is found by a look
    looks : (x : ObjectId) (version : ℕ) (mark : DataMark) → x.client ≡ c → r.seat.client.serial ≡ k.serial
        → find_in r.seat.client.map x.id ≡ Some (record { row = x.row; version = version; «data» = record { serial = x.serial; mark = mark } })
        → (perform t (look x) (after t c b w)).answer ≡ looked (Ok (record { row = x.row; version = version; mark = mark }))
    looks x version mark whose serial found =
        look_found t (after t c b w) x r.seat.client (record { row = x.row; version = version; «data» = record { serial = x.serial; mark = mark } })
        (ap (client_at (after t c b w)) whose ∙ client_after serial) found refl refl

    fits_told : (d : Reads k q) (a : StepAnswer) → FitsRead k q d a r.seat r.roll → Told a
    fits_told d Idle f = tt
    fits_told d Closed f = tt
    fits_told d (Synced e) f = (
      (
        requested d,
        record {
          of_display = f.row;
          opcode = f.code;
          callback = f.callback;
          whose = f.whose;
          ended = look_gone t (after t c b w) e.object r.seat.client (ap (client_at (after t c b w)) f.whose ∙ client_after f.serial) f.ended;
        },
      ),
      takes f.taken,
    )
    fits_told d (Registered x) f = (
      (
        requested d,
        record {
          of_display = f.row;
          opcode = f.code;
          registry = f.registry;
          whose = f.whose;
          live = (record { row = x.row; version = 1; mark = Own }, looks x 1 Own f.whose f.serial f.lives, refl);
          on_roll = subst (OnRoll x) (ap (λ (v : Run). v.world.engine.registry.roll) (sym runs)) f.on_roll;
        },
      ),
      takes f.taken,
    )
    fits_told d (Plain x) f =
        ((requested d, record { not_display = f.not_display; not_registry = f.not_registry; says = f.says; makes_none = f.none }), takes f.taken)
    fits_told d (Making x) f = (
      (
        requested d,
        record {
          not_display = f.not_display;
          says = f.says;
          makes_one = f.one;
          child_waits = (record { row = x.request.child.row; version = f.waits.version; mark = Awaited }, looks x.request.child f.waits.version Awaited f.waits.whose f.serial f.waits.there, refl, refl);
          bind = f.bind;
          other = f.other;
        },
      ),
      takes f.taken,
    )
    fits_told d (Failed e) f = tt

  by_line : (k : Client) → client_at w c ≡ Some k → (qs : List Waiting) (x : Bool) → line.requests ≡ qs → step_of t c b w k ≡ stepped_at place (headed (front qs) x) (seat c k (from w)) b
      → (perform t (step c b) w).run ≡ step_run c w (step_of t c b w k) → Told (step_of t c b w k).answer
  by_line k there [] true e same runs = subst (λ (r : Stepped). Told r.answer) (sym same) tt
  by_line k there [] false e same runs = subst (λ (r : Stepped). Told r.answer) (sym same) tt
  by_line k there (q ∷ qs) x e same runs =
      let r = stepped_at place (head.Request q.sender q.opcode) (seat c k (from w)) b in
      subst (λ (r : Stepped). Told r.answer) (sym same)
      (⊎_elim (λ f. broke_told r.answer f) (λ d. fits_told k there q qs e r (runs ∙ ap (step_run c w) same) d.0 r.answer d.1) (sender_looked k there q qs e (find_in k.map q.sender) refl))

  tells : (a : StepAnswer) → Answers t c b w a → Told a
  tells a e =
      let g = taken t c b w a e in
      subst Told g.says
      (by_line g.client g.there line.requests line.broken refl refl g.runs)

module _ (t : Terms) (c : ClientId) (b : Buffers) (w : World) where
  hands_out : (a : StepAnswer) → Answers t c b w a → is_some (front (w.lines c.place).requests) ≡ true → at_fault a ≡ false → by_engine a ≡ false → is_some (ticket_in a) ≡ true
  hands_out Idle e h f g = absurd (false≢true (sym (ap (λ (rs : List Waiting). is_some (front rs)) (known t c b w Idle e).0) ∙ h))
  hands_out Closed e h f g = absurd (false≢true (sym (ap (λ (rs : List Waiting). is_some (front rs)) (known t c b w Closed e).0) ∙ h))
  hands_out (Synced x) e h f g = absurd (false≢true (sym g))
  hands_out (Registered x) e h f g = absurd (false≢true (sym g))
  hands_out (Plain x) e h f g = refl
  hands_out (Making x) e h f g = refl
  hands_out (Failed x) e h f g = absurd (false≢true (sym f))

  outstanding : (a : StepAnswer) → Answers t c b w a → ticket_of (after t c b w).engine.outstanding ≡ ticket_in a
  outstanding a e =
      let g = taken t c b w a e in
      ap (λ (r : Run). ticket_of r.world.engine.outstanding) g.runs ∙ (works t c b w g.client ∙ ap ticket_in g.says)

  module _ (x : Ticket) (held : ticket_of w.engine.outstanding ≡ Some x) where
    not_free : (o : Outstanding) → ticket_of o ≡ Some x → is_free o ≡ false
    not_free out.Nothing e = absurd (not_vacant None x e refl)
    not_free (out.Plain o) e = refl
    not_free (out.Making m) e = refl

    abbrev later : Unit {0} → Result Client Refusal
    later u = passing (the_client w c) (λ (k : Client). passing (unless (is_live k.state) ClientKilled) (λ (v : Unit {0}). Ok k))

    abbrev checked_as : Bool → Bool → Result Client Refusal
    checked_as room free = passing (unless room BadSize) (λ (u : Unit {0}). passing (unless free TicketOutstanding) later)

    refused_as : (room : Bool) (e : Refusal) → roomy b ≡ room → checked_as room false ≡ Err e → (perform t (step c b) w).answer ≡ stepped (Err e)
    refused_as room e h q =
        ap (λ (r : Result Client Refusal). (checked stepped r w (step_act t c b w)).answer)
        (ap (λ (y : Bool). checked_as y (is_free w.engine.outstanding)) h ∙ (ap (checked_as room) (not_free w.engine.outstanding held) ∙ q))

    one_at_a_time : (e : Refusal) × ((perform t (step c b) w).answer ≡ stepped (Err e))
    one_at_a_time = ⊎_elim (λ h. (TicketOutstanding, refused_as true TicketOutstanding h refl)) (λ h. (BadSize, refused_as false BadSize h refl)) (cases_Bool (roomy b))

    refused_for_that : 192 ≤ length b.text → 4096 ≤ length b.body → (perform t (step c b) w).answer ≡ stepped (Err TicketOutstanding)
    refused_for_that m n =
        refused_as true TicketOutstanding
        (and_from (not (ltb (length b.text) 192)) (not (ltb (length b.body) 4096)) (ap not (le-ltb (length b.text) 192 m)) (ap not (le-ltb (length b.body) 4096 n))) refl

-- A step reads one request.

module _ {t : Terms} {c : ClientId} {w : World} (r s : Request t c w) where
  same_waiting : r.waiting ≡ s.waiting
  same_waiting = some_is r.waiting s.waiting (sym r.first ∙ s.first)

  same_sender : r.sender ≡ s.sender
  same_sender =
      let k : r.client ≡ s.client = some_is r.client s.client (sym r.there ∙ s.there) in
      some_is r.sender s.sender (sym r.alive ∙ (ap (λ (q : Client). find_in q.map r.waiting.sender) k ∙ (ap (λ (q : Waiting). find_in s.client.map q.sender) same_waiting ∙ s.alive)))

  same_message : r.message ≡ s.message
  same_message =
      some_is r.message s.message
      (sym r.known ∙ (ap (λ (x : Object ObjectData). request_in t.rows x.row r.waiting.opcode) same_sender ∙ (ap (λ (q : Waiting). request_in t.rows s.sender.row q.opcode) same_waiting ∙ s.known)))

  same_content : r.content ≡ s.content
  same_content =
      some_is r.content s.content
      (sym r.formed ∙ (ap (λ (m : MessageModel). r.waiting.content m.kinds) same_message ∙ (ap (λ (q : Waiting). q.content s.message.kinds) same_waiting ∙ s.formed)))

  row_too : r.sender.row ≡ s.sender.row
  row_too = ap (λ (x : Object ObjectData). x.row) same_sender

  new_ids_too : new_ids r ≡ new_ids s
  new_ids_too = ap (λ (m : MessageModel). count is_new_id m.kinds) same_message

  agrees_too : agree r.message.kinds r.content.arguments ≡ true → agree s.message.kinds s.content.arguments ≡ true
  agrees_too e =
      subst (λ (y : Content). agree s.message.kinds y.arguments ≡ true) same_content
      (subst (λ (m : MessageModel). agree m.kinds r.content.arguments ≡ true) same_message e)

module _ (t : Terms) (lawful : Lawful t.rows) (c : ClientId) (b : Buffers) (w : World) (r : Request t c w) where
  -- nothing is called for where no request waits
  waits_none : (a : StepAnswer) → (w.lines c.place).requests ≡ [] → CallsFor r a
  waits_none a e = absurd (not_vacant None r.waiting (sym (ap (λ (rs : List Waiting). front rs) e) ∙ r.first) refl)

  calls_for : (a : StepAnswer) → Answers t c b w a → at_fault a ≡ false → agree r.message.kinds r.content.arguments ≡ true → CallsFor r a
  calls_for Idle e f g = waits_none Idle (known t c b w Idle e).0
  calls_for Closed e f g = waits_none Closed (known t c b w Closed e).0
  calls_for (Synced x) e f g =
      let s = (tells t lawful c b w (Synced x) e).0 in
      let one : r.sender.row ≡ 1 = row_too r s.0 ∙ s.1.of_display in
      record { of_display = λ _. refl; without_new_id = λ ne _. absurd (ne one); with_new_id = λ ne _. absurd (ne one) }
  calls_for (Registered x) e f g =
      let s = (tells t lawful c b w (Registered x) e).0 in
      let one : r.sender.row ≡ 1 = row_too r s.0 ∙ s.1.of_display in
      record { of_display = λ _. refl; without_new_id = λ ne _. absurd (ne one); with_new_id = λ ne _. absurd (ne one) }
  calls_for (Plain x) e f g =
      let s = (tells t lawful c b w (Plain x) e).0 in
      let none : new_ids r ≡ 0 = new_ids_too r s.0 ∙ s.1.makes_none (agrees_too r s.0 g) in
      record {
        of_display = λ one. absurd (s.1.not_display (sym (row_too r s.0) ∙ one));
        without_new_id = λ _ _. (x, refl);
        with_new_id = λ _ one. absurd (omega (arith, none, one));
      }
  calls_for (Making x) e f g =
      let s = (tells t lawful c b w (Making x) e).0 in
      let some : new_ids r ≡ 1 = new_ids_too r s.0 ∙ s.1.makes_one in
      record {
        of_display = λ one. absurd (s.1.not_display (sym (row_too r s.0) ∙ one));
        without_new_id = λ _ none. absurd (omega (arith, none, some));
        with_new_id = λ _ _. (x, refl);
      }
  calls_for (Failed x) e f g = absurd (false≢true (sym f))

pub sound_requests_hand_out : SoundRequestsHandOut
sound_requests_hand_out = record {
  hands_out = hands_out;
  outstanding = outstanding;
  one_at_a_time = one_at_a_time;
  refused_for_that = refused_for_that;
  synced = λ t lawful c b w e. tells t lawful c b w (Synced e);
  registered = λ t lawful c b w x. tells t lawful c b w (Registered x);
  plain = λ t lawful c b w x. tells t lawful c b w (Plain x);
  making = λ t lawful c b w x. tells t lawful c b w (Making x);
  exactly = λ t lawful c b w r a. calls_for t lawful c b w r a;
}
