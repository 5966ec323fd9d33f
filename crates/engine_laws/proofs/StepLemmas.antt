-- What a step that is not refused looks at, and when it is idle or closes.
use Rattle.std.proofs.Common.{◌≡◌, ℕ, Bool, true, false, cond, eqb, ltb, set, List, [], ◌∷◌, length, Some, None, Ok, Err, Option, Result, sym, refl, ap, ◌∙◌, subst, ⊎_elim, arith}
use Rattle.std.proofs.lemmas.Bool.{cond_both, cond-true, cond-false, cases_Bool, eqb-true, false≢true}
use Rattle.std.proofs.lemmas.List.{set-get_or}
use Rattle.places.specs.Places.{at}
use Rattle.map.specs.declared.fault.MapFault.{MapFault}
use Rattle.map.specs.declared.Object.{Object}
use Rattle.map.specs.declared.ObjectData.{ObjectData}
use Rattle.map.specs.Map.{find_in, insert_answer}
use Rattle.protocol.specs.declared.argument.Argument.{Argument}
use Rattle.protocol.specs.declared.refusal.Refusal.{Refusal}
use Rattle.protocol.specs.declared.refusal.Refusal.TheVariants.{BadSize, TicketOutstanding, ClientKilled}
use Rattle.protocol.specs.Meaning.{request_in}
use Rattle.protocol.specs.Model.{MessageModel}
use Rattle.message.specs.declared.part.Part.{Part}
use Rattle.queue.specs.Ring.{front}
use Rattle.wire.specs.declared.answers.Head.{Head}
use Rattle.wire.specs.declared.answers.Head.TheVariants as head
use Rattle.wire.specs.Line.{Line, Waiting, Content, headed, reads}
use Rattle.backend.specs.declared.ids.ClientId.{ClientId}
use Rattle.backend.specs.declared.ids.ObjectId.{ObjectId}
use Rattle.backend.specs.declared.client.Client.{Client}
use Rattle.backend.specs.declared.client.ClientState.{ClientState}
use Rattle.backend.specs.declared.client.ClientState.TheVariants.{Live, Untold, Told}
use Rattle.backend.specs.declared.client.DisconnectReason.TheVariants.{ConnectionClosed}
use Rattle.backend.specs.declared.registry.Global.{Global}
use Rattle.backend.specs.declared.ticket.Origin.{Origin}
use Rattle.backend.specs.declared.ticket.Outstanding.{Outstanding}
use Rattle.backend.specs.declared.ticket.Outstanding.TheVariants as out
use Rattle.backend.specs.declared.answers.StepAnswer.{StepAnswer}
use Rattle.backend.specs.declared.answers.StepAnswer.TheVariants.{Idle, Closed, Synced, Registered, Plain, Making, Failed}
use Rattle.backend.specs.World.{Terms, World, client_at, is_live, with_state}
use Rattle.backend.specs.Acts.{Seat, Run, from, seat, struck, killed}
use Rattle.backend.specs.Checks.{passing, unless, the_client}
use Rattle.backend.specs.Arguments.{Failing, Walked, walk}
use Rattle.backend.specs.Reading.{BindAsked, only_new_id, bind_arguments}
use Rattle.backend.specs.Registries.{roll_end}
use Rattle.backend.specs.Requests.{Buffers, Stepped, Place, synced, enlisted, registered, displayed, bind_entered, bind_to, bind_named, bound, hand_out, concluded, asked, origin_of, dispatched, received_at, filled, read_in, of_message, of_sender, stepped as stepped_at}
use Rattle.backend.specs.Calls.{is_free, roomy, step_check, step_of, step_run, step_act}
use Rattle.backend.specs.Perform.{step, stepped, checked, perform, buffers_in, buffers_after}
use Rattle.accounts.specs.Shown.{ticket_of}
use Rattle.accounts.proofs.Checked.{ok_is, passed, required, the_client_lem}
use Rattle.accounts.proofs.Books.{some_is}
use Rattle.accounts.proofs.Kept.{named_is, client_same}
use Rattle.engine_laws.specs.Steps.{Answers, ticket_in, KillsAlone, StepsAreNotIdle}

-- A step that is not refused.

pub record Taken (t : Terms) (c : ClientId) (b : Buffers) (w : World) (a : StepAnswer) : Type 0 where
  pub client : Client
  pub there : client_at w c ≡ Some client
  pub live : is_live client.state ≡ true
  pub free : w.engine.outstanding ≡ out.Nothing
  pub says : (step_of t c b w client).answer ≡ a
  pub runs : (perform t (step c b) w).run ≡ step_run c w (step_of t c b w client)
  pub lends : buffers_after t c b w ≡ (step_of t c b w client).buffers

free_is : (o : Outstanding) → is_free o ≡ true → o ≡ out.Nothing
free_is out.Nothing e = refl
free_is (out.Plain o) e = absurd (false≢true e)
free_is (out.Making m) e = absurd (false≢true e)

module _ (t : Terms) (c : ClientId) (b : Buffers) (w : World) where
  pub checks : (k : Client) → step_check c b w ≡ Ok k → (client_at w c ≡ Some k) × ((is_live k.state ≡ true) × (w.engine.outstanding ≡ out.Nothing))
  checks k e =
      let after_client = λ (q : Client). passing (unless (is_live q.state) ClientKilled) (λ (u : Unit {0}). Ok q) in
      let after_ticket = λ (u : Unit {0}). passing (the_client w c) after_client in
      let after_room = λ (u : Unit {0}). passing (unless (is_free w.engine.outstanding) TicketOutstanding) after_ticket in
      let p = passed (unless (roomy b) BadSize) after_room k e in
      let q = passed (unless (is_free w.engine.outstanding) TicketOutstanding) after_ticket k p.2 in
      let r = passed (the_client w c) after_client k q.2 in
      let s = passed (unless (is_live r.0.state) ClientKilled) (λ (u : Unit {0}). Ok r.0) k r.2 in
      let same : r.0 ≡ k = ok_is r.0 k s.2 in (
        the_client_lem w c r.0 r.1 ∙ ap (λ (x : Client). Some x) same,
        (ap (λ (x : Client). is_live x.state) (sym same) ∙ required (is_live r.0.state) ClientKilled s.0 s.1, free_is w.engine.outstanding (required (is_free w.engine.outstanding) TicketOutstanding q.0 q.1)),
      )

  pub taken : (a : StepAnswer) → Answers t c b w a → Taken t c b w a
  taken a e = go (step_check c b w) refl e
    where
      go : (r : Result Client Refusal) → step_check c b w ≡ r → (checked stepped r w (step_act t c b w)).answer ≡ stepped (Ok a) → Taken t c b w a
      go (Err x) q f = let z : ◌≡◌ {A = ℕ} 0 1 = cc in absurd (omega arith)
      go (Ok k) q f =
          let h = checks k q in
          record {
            client = k;
            there = h.0;
            live = h.1.0;
            free = h.1.1;
            says = cc;
            runs = ap (λ (r : Result Client Refusal). (checked stepped r w (step_act t c b w)).run) q;
            lends = ap (buffers_in t c b w) q;
          }

-- Which answers there are where a request waits.

abbrev Busy : StepAnswer → Type 0
Busy Idle = ⊥
Busy Closed = ⊥
Busy (Synced e) = Unit {0}
Busy (Registered x) = Unit {0}
Busy (Plain x) = Unit {0}
Busy (Making x) = Unit {0}
Busy (Failed e) = Unit {0}

-- and the ticket that the answer has is outstanding
abbrev pub Works : Stepped → Type 0
Works r = Busy r.answer × (ticket_of r.outstanding ≡ ticket_in r.answer)

module _ (p : Place) (s : Seat) (b : Buffers) where
  synced_busy : (id : ℕ) (r : Result (Unit {0}) MapFault) → Works (synced p id r s b)
  synced_busy id (Err f) = (tt, refl)
  synced_busy id (Ok u) = (tt, refl)

  enlisted_busy : (id : ℕ) (v : Option ℕ) → Works (enlisted p id v s b)
  enlisted_busy id None = (tt, refl)
  enlisted_busy id (Some i) = (tt, refl)

  registered_busy : (id : ℕ) (r : Result (Unit {0}) MapFault) → Works (registered p id r s b)
  registered_busy id (Err f) = (tt, refl)
  registered_busy id (Ok u) = enlisted_busy id (roll_end p.registry.roll)

  displayed_busy : (opcode : ℕ) (v : Option ℕ) → Works (displayed p opcode v s b)
  displayed_busy opcode None = (tt, refl)
  displayed_busy opcode (Some id) =
      cond_both (eqb opcode 0) _ _ Works (λ _. synced_busy id (insert_answer s.client.map id)) (λ _. registered_busy id (insert_answer s.client.map id))

  bind_entered_busy : (o : Origin) (name version id : ℕ) (g : Global) (r : Result (Unit {0}) MapFault) → Works (bind_entered p o name version id g r s b)
  bind_entered_busy o name version id g (Err f) = (tt, refl)
  bind_entered_busy o name version id g (Ok u) = (tt, refl)

  bind_to_busy : (o : Origin) (name : ℕ) (interface : List ℕ) (version id : ℕ) (g : Option Global) → Works (bind_to p o name interface version id g s b)
  bind_to_busy o name interface version id None = (tt, refl)
  bind_to_busy o name interface version id (Some g) = bind_entered_busy o name version id g (insert_answer s.client.map id)

  bind_named_busy : (o : Origin) (name : ℕ) (text : Option Part) (version id : ℕ) → Works (bind_named p o name text version id s b)
  bind_named_busy o name None version id = (tt, refl)
  bind_named_busy o name (Some text) version id = bind_to_busy o name _ version id _

  bound_busy : (o : Origin) (a : Option (BindAsked Part)) → Works (bound p o a s b)
  bound_busy o None = (tt, refl)
  bound_busy o (Some a) = bind_named_busy o a.name a.interface a.version a.new_id

  out_busy : (o : Origin) (v : Option ObjectId) (os : List (Option ObjectId)) (q : Seat) → Works (hand_out p o v os q b)
  out_busy o None os q = (tt, refl)
  out_busy o (Some x) os q = (tt, refl)

  concluded_busy : (o : Origin) (f : Option Failing) (r : Walked) → Works (concluded p o f r b)
  concluded_busy o (Some f) r = (tt, refl)
  concluded_busy o None r = out_busy o r.child r.objects r.seat

  asked_busy : (o : Origin) (x : Object ObjectData) (m : MessageModel) (as' : List (Argument ℕ Part)) → Works (asked p o x m as' s b)
  asked_busy o x m as' =
      cond_both (ltb x.version m.since) _ _ Works (λ _. (tt, refl))
      (λ _. let r = walk p.terms (record { sender = o.sender; version = x.version; message = m }) 0 m.kinds as' None m.rows s in concluded_busy o r.fault r)

  dispatched_busy : (o : Origin) (x : Object ObjectData) (m : MessageModel) (as' : List (Argument ℕ Part)) → Works (dispatched p o x m as' s b)
  dispatched_busy o x m as' =
      cond_both (eqb x.row 1) _ _ Works (λ _. displayed_busy o.opcode (only_new_id as'))
      (λ _. cond_both (eqb x.row 2) _ _ Works (λ _. bound_busy o (bind_arguments as')) (λ _. asked_busy o x m as'))

module _ (p : Place) (s : Seat) (b : Buffers) where
  read_busy : (o : Origin) (x : Object ObjectData) (m : MessageModel) (c : Option Content) → Works (read_in p o x m c s b)
  read_busy o x m None = (tt, refl)
  read_busy o x m (Some c) = dispatched_busy p (received_at m s b) (filled c b) o x m c.arguments

  message_busy : (id opcode : ℕ) (x : Object ObjectData) (m : Option MessageModel) → Works (of_message p id opcode x m s b)
  message_busy id opcode x None = (tt, refl)
  message_busy id opcode x (Some m) = read_busy (origin_of p.client id opcode x m) x m (reads (length b.body) m.kinds s.line)

  sender_busy : (id opcode : ℕ) (x : Option (Object ObjectData)) → Works (of_sender p id opcode x s b)
  sender_busy id opcode None = (tt, refl)
  sender_busy id opcode (Some x) = message_busy id opcode x (request_in p.terms.rows x.row opcode)

-- By the head of the line.

module _ (t : Terms) (c : ClientId) (b : Buffers) (w : World) where
  abbrev line : Line
  line = w.lines c.place

  abbrev at_head : Head → Client → Stepped
  at_head d k = stepped_at (record { terms = t; registry = w.engine.registry; client = c }) d (seat c k (from w)) b

  -- what is known of the line by the answer
  abbrev pub Known : StepAnswer → Type 0
  Known Idle = (line.requests ≡ []) × (line.broken ≡ false)
  Known Closed = (line.requests ≡ []) × (line.broken ≡ true)
  Known (Synced e) = Unit {0}
  Known (Registered x) = Unit {0}
  Known (Plain x) = Unit {0}
  Known (Making x) = Unit {0}
  Known (Failed e) = Unit {0}

  busy_known : (a : StepAnswer) → Busy a → Known a
  busy_known Idle y = absurd y
  busy_known Closed y = absurd y
  busy_known (Synced e) y = tt
  busy_known (Registered x) y = tt
  busy_known (Plain x) y = tt
  busy_known (Making x) y = tt
  busy_known (Failed e) y = tt

  by_line : (k : Client) (a : StepAnswer) (rs : List Waiting) (x : Bool) → line.requests ≡ rs → line.broken ≡ x → (at_head (headed (front rs) x) k).answer ≡ a → Known a
  by_line k a [] true e f q = subst Known q (e, f)
  by_line k a [] false e f q = subst Known q (e, f)
  by_line k a (r ∷ rs) x e f q = busy_known a (subst Busy q (sender_busy (record { terms = t; registry = w.engine.registry; client = c }) (seat c k (from w)) b r.sender r.opcode (find_in k.map r.sender)).0)

  pub known : (a : StepAnswer) → Answers t c b w a → Known a
  known a e = let k = taken t c b w a e in by_line k.client a line.requests line.broken refl refl k.says

  -- the ticket that is outstanding is the answer's
  hands : (k : Client) (rs : List Waiting) (x : Bool) → ticket_of (at_head (headed (front rs) x) k).outstanding ≡ ticket_in (at_head (headed (front rs) x) k).answer
  hands k [] true = refl
  hands k [] false = refl
  hands k (r ∷ rs) x = (sender_busy (record { terms = t; registry = w.engine.registry; client = c }) (seat c k (from w)) b r.sender r.opcode (find_in k.map r.sender)).1

  pub works : (k : Client) → ticket_of (step_of t c b w k).outstanding ≡ ticket_in (step_of t c b w k).answer
  works k = hands k line.requests line.broken

  -- an empty line
  at_end : (k : Client) (x : Bool) → line.requests ≡ [] → line.broken ≡ x → step_of t c b w k ≡ at_head (headed None x) k
  at_end k x e f = ap (λ (rs : List Waiting). at_head (headed (front rs) line.broken) k) e ∙ ap (λ (y : Bool). at_head (headed None y) k) f

  answers_end : (a : StepAnswer) (x : Bool) (d : StepAnswer) → ((k : Client) → (at_head (headed None x) k).answer ≡ d) → Answers t c b w a → line.requests ≡ [] → line.broken ≡ x → a ≡ d
  answers_end a x d is e r f =
      let k = taken t c b w a e in sym k.says ∙ (ap (λ (q : Stepped). q.answer) (at_end k.client x r f) ∙ is k.client)

  -- the line is put back as it was
  unmoved : (p : ℕ) → cond (eqb p c.place) line (w.lines p) ≡ w.lines p
  unmoved p =
      ⊎_elim (λ e. cond-true (eqb p c.place) line (w.lines p) e ∙ ap w.lines (sym (eqb-true p c.place e))) (λ e. cond-false (eqb p c.place) line (w.lines p) e)
      (cases_Bool (eqb p c.place))

  idle_run : (k : Client) → client_at w c ≡ Some k → w.engine.outstanding ≡ out.Nothing → step_run c w (at_head head.Nothing k) ≡ from w
  idle_run k there free =
      let places = w.engine.store.clients.places in
      let held : at places c.place ≡ Some k = (named_is c (at places c.place) k there).0 in
      let as_it_was : set places c.place (Some k) ≡ places = ap (set places c.place) (sym held) ∙ set-get_or places c.place None in
      let out_now : out.Nothing ≡ w.engine.outstanding = sym free in
      λ i. record {
        world = record {
          engine = record {
            store = record { clients = record { places = as_it_was i; len = w.engine.store.clients.len }; last_serial = w.engine.store.last_serial };
            registry = w.engine.registry;
            outstanding = out_now i;
          };
          lines = λ p. unmoved p i;
        };
        deeds = [];
      }

  idle_leaves : Answers t c b w Idle → ((perform t (step c b) w).run ≡ from w) × (buffers_after t c b w ≡ b)
  idle_leaves e =
      let k = taken t c b w Idle e in
      let l = known Idle e in
      let s = at_end k.client false l.0 l.1 in
      (k.runs ∙ (ap (step_run c w) s ∙ idle_run k.client k.there k.free), k.lends ∙ ap (λ (q : Stepped). q.buffers) s)

  struck_live : (s : ClientState) → is_live s ≡ true → struck ConnectionClosed s ≡ Untold ConnectionClosed
  struck_live Live e = refl
  struck_live (Untold r) e = absurd (false≢true e)
  struck_live Told e = absurd (false≢true e)

  closed_kills : (k : Client) → Answers t c b w Closed → client_at w c ≡ Some k → KillsAlone t c b w k
  closed_kills k e there =
      let g = taken t c b w Closed e in
      let l = known Closed e in
      let same : g.client ≡ k = some_is g.client k (sym g.there ∙ there) in
      let live : is_live k.state ≡ true = ap (λ (q : Client). is_live q.state) (sym same) ∙ g.live in
      let s : step_of t c b w g.client ≡ at_head head.Broken k = at_end g.client true l.0 l.1 ∙ ap (at_head head.Broken) same in
      let run : (perform t (step c b) w).run ≡ step_run c w (at_head head.Broken k) = g.runs ∙ ap (step_run c w) s in
      record {
        killed = ap (λ (r : Run). client_at r.world c) run
            ∙ (client_same w c k there (killed ConnectionClosed k) refl ∙ ap (λ (q : ClientState). Some (with_state q k)) (struck_live k.state live));
        no_deeds = ap (λ (r : Run). r.deeds) run;
        lines = λ p. ap (λ (r : Run). r.world.lines p) run ∙ unmoved p;
        buffers = g.lends ∙ ap (λ (q : Stepped). q.buffers) s;
      }

pub steps_are_not_idle : StepsAreNotIdle
steps_are_not_idle = record {
  idle = λ t c b w e. known t c b w Idle e;
  closed = λ t c b w e. known t c b w Closed e;
  nothing_waits = λ t c b w a e. answers_end t c b w a false Idle (λ k. refl) e;
  broken = λ t c b w a e. answers_end t c b w a true Closed (λ k. refl) e;
  idle_leaves = idle_leaves;
  closed_kills = closed_kills;
}
