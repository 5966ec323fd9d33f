-- What a new registry is told, and what the roll is told of a new global.
use Rattle.std.proofs.Common.{◌≡◌, ℕ, zero, suc, ◌+◌, ◌≤◌, Bool, true, false, cond, not, ◌&&◌, eqb, ltb, leb, List, [], ◌∷◌, ◌++◌, length, take, Some, None, Ok, Err, Option, Result, sym, refl, ap, ◌∙◌, subst, ⊎_elim, append_assoc, arith}
use Rattle.std.proofs.lemmas.Bool.{cond_both, cond-true, cond-false, cases_Bool, and_from, eq-eqb, ne_eqb, le-leb, lt-leb, leb-true, leb-false}
use Rattle.std.proofs.lemmas.List.{append-nil}
use Rattle.map.specs.declared.DataMark.TheVariants.{Own}
use Rattle.map.specs.declared.fault.MapFault.{MapFault}
use Rattle.map.specs.declared.Object.{Object}
use Rattle.map.specs.declared.ObjectData.{ObjectData}
use Rattle.map.specs.Map.{find_in, insert_answer}
use Rattle.protocol.specs.Lawful.{Lawful}
use Rattle.protocol.specs.Meaning.{request_in}
use Rattle.protocol.specs.Model.{MessageModel}
use Rattle.protocol.specs.declared.argument.Argument.{Argument}
use Rattle.protocol.specs.declared.refusal.Refusal.{Refusal}
use Rattle.protocol.specs.declared.refusal.Refusal.TheVariants.{BadSize, TicketOutstanding, ClientKilled}
use Rattle.message.specs.declared.part.Part.{Part}
use Rattle.message.specs.Events.{EventModel, sendable}
use Rattle.wire.specs.declared.answers.Head.{Head}
use Rattle.wire.specs.declared.answers.Head.TheVariants as head
use Rattle.wire.specs.declared.answers.WriteError.{WriteError}
use Rattle.wire.specs.declared.answers.WriteError.TheVariants.{Refused}
use Rattle.wire.specs.Line.{Line, Content, head_of, reads, with_event, write_answer, written}
use Rattle.backend.specs.declared.ids.ClientId.{ClientId}
use Rattle.backend.specs.declared.ids.ObjectId.{ObjectId}
use Rattle.backend.specs.declared.client.Client.{Client}
use Rattle.backend.specs.declared.registry.Global.{Global}
use Rattle.backend.specs.declared.ticket.Origin.{Origin}
use Rattle.backend.specs.declared.answers.StepAnswer.{StepAnswer}
use Rattle.backend.specs.declared.answers.StepAnswer.TheVariants.{Idle, Closed, Synced, Registered, Plain, Making, Failed}
use Rattle.backend.specs.Acts.{Seat, from, seat, lost, offer, fresh, enter}
use Rattle.backend.specs.Arguments.{Failing, Walked, walk}
use Rattle.backend.specs.Calls.{roomy, is_free, step_check, step_of, step_run, step_act}
use Rattle.backend.specs.Checks.{unless, the_client}
use Rattle.backend.specs.Reading.{BindAsked, only_new_id, bind_arguments}
use Rattle.backend.specs.Registries.{visible, announce, announce_all, roll_end}
use Rattle.backend.specs.Requests.{Buffers, Stepped, Place, synced, enlisted, registered, displayed, bind_entered, bind_to, bind_named, bound, hand_out, concluded, asked, origin_of, dispatched, received_at, filled, read_in, of_message, of_sender, stepped}
use Rattle.backend.specs.Texts.{name_in}
use Rattle.backend.specs.World.{Terms, World, client_at, is_live}
use Rattle.backend.specs.Perform.{stepped as step_answer, checked}
use Rattle.accounts.proofs.Books.{some_is}
use Rattle.accounts.proofs.Kept.{client_same}
use Rattle.accounts.proofs.Seats.{struck_dead}
use Rattle.accounts.proofs.Checked.{passed, required, ok_is, the_client_lem}
use Rattle.engine_laws.specs.Announced.{announcement, announcements, Tells, NewRegistryHearsGlobals}
use Rattle.engine_laws.proofs.Silence.{announce_same, announce_silent}
use Rattle.engine_laws.proofs.TextSizes.{row_name}

-- One event.

-- every announcement is one that a wire takes
pub announcement_sendable : (t : Terms) → Lawful t.rows → (x : ObjectId) (name : ℕ) (g : Global) → sendable (announcement t x name g) ≡ true
announcement_sendable t lawful x name g =
    let n = row_name t.rows lawful g.row in
    let small : 0 + (length (name_in t.rows g.row) + 0) ≤ 256 = omega (arith, n.short) in
    and_from (leb (0 + (length (name_in t.rows g.row) + 0)) 256) _ (le-leb (0 + (length (name_in t.rows g.row) + 0)) 256 small) (and_from _ true n.no_zero refl)

-- what an offer does where the line takes one more, and where it takes none
module _ (e : EventModel) (s : Seat) (fits : sendable e ≡ true) where
  pub record Taken (n : ℕ) : Type 0 where
    pub client : (offer e s).client ≡ s.client
    pub events : (offer e s).line.events ≡ s.line.events ++ e ∷ []
    pub allowance : (offer e s).line.allowance ≡ n

  pub offer_taken : (n : ℕ) → s.line.allowance ≡ suc n → Taken n
  offer_taken n a =
      let some : eqb s.line.allowance 0 ≡ false = ne_eqb s.line.allowance 0 (λ q. omega (arith, a, q)) in
      let answer : write_answer e s.line ≡ Ok tt = cond-false (eqb s.line.allowance 0) _ _ some ∙ cond-true (sendable e) _ _ fits in
      let line : written e s.line ≡ with_event e s.line = cond-false (eqb s.line.allowance 0) _ _ some ∙ cond-true (sendable e) _ _ fits in
      record {
        client = ap (λ (r : Result (Unit {0}) WriteError). lost r s.client) answer;
        events = ap (λ (l : Line). l.events) line;
        allowance = ap (λ (l : Line). l.allowance) line ∙ omega (arith, a);
      }

  pub record Lost : Type 0 where
    pub dead : is_live (offer e s).client.state ≡ false
    pub line : (offer e s).line ≡ s.line

  pub offer_lost : s.line.allowance ≡ 0 → Lost
  offer_lost a =
      let none : eqb s.line.allowance 0 ≡ true = ap (λ (i : ℕ). eqb i 0) a in
      let answer : write_answer e s.line ≡ Err Refused = cond-true (eqb s.line.allowance 0) _ _ none in
      record {
        dead = ap (λ (r : Result (Unit {0}) WriteError). is_live (lost r s.client).state) answer ∙ struck_dead _ s.client.state;
        line = cond-true (eqb s.line.allowance 0) _ _ none;
      }

-- A list of events, told at a seat whose client lives.

record Told (before : Seat) (events : List EventModel) (after : Seat) : Type 0 where
  line : after.line.events ≡ before.line.events ++ take before.line.allowance events
  live : is_live after.client.state ≡ leb (length events) before.line.allowance

pub take_nothing : (n : ℕ) → take {A = EventModel} n [] ≡ []
take_nothing zero = refl
take_nothing (suc n) = refl

told_none : (s : Seat) → is_live s.client.state ≡ true → Told s [] s
told_none s l = record { line = sym (append-nil s.line.events) ∙ ap (λ (xs : List EventModel). s.line.events ++ xs) (sym (take_nothing s.line.allowance)); live = l ∙ sym (le-leb 0 s.line.allowance (omega arith)) }

pub one_less : (m n : ℕ) → leb (suc m) (suc n) ≡ leb m n
one_less m n =
    ⊎_elim (λ e. le-leb (suc m) (suc n) (let le = leb-true m n e in omega arith) ∙ sym e)
    (λ e. lt-leb (suc m) (suc n) (let lt = leb-false m n e in omega arith) ∙ sym e) (cases_Bool (leb m n))

-- one more in front, of which either the line takes it, and the rest is told, or the client is killed, and hears no more
told_more : (e : EventModel) (es : List EventModel) (s : Seat) (f : Seat → Seat) → sendable e ≡ true → is_live s.client.state ≡ true
    → ((q : Seat) → q.client ≡ s.client → Told q es (f q)) → ((q : Seat) → is_live q.client.state ≡ false → f q ≡ q) → Told s (e ∷ es) (f (offer e s))
told_more e es s f fits l rest silent = go s.line.allowance refl
  where
    go : (n : ℕ) → s.line.allowance ≡ n → Told s (e ∷ es) (f (offer e s))
    go zero a =
        let o = offer_lost e s fits a in
        let same = silent (offer e s) o.dead in
        record {
          line = ap (λ (q : Seat). q.line.events) same ∙ (ap (λ (x : Line). x.events) o.line ∙ (sym (append-nil s.line.events) ∙ ap (λ (n : ℕ). s.line.events ++ take n (e ∷ es)) (sym a)));
          live = ap (λ (q : Seat). is_live q.client.state) same ∙ (o.dead ∙ sym (lt-leb (suc (length es)) s.line.allowance (omega (arith, a))));
        }
    go (suc n) a =
        let o = offer_taken e s fits n a in
        let r = rest (offer e s) o.client in
        record {
          line = r.line ∙ (ap (λ (xs : List EventModel). xs ++ take (offer e s).line.allowance es) o.events
              ∙ (ap (λ (i : ℕ). (s.line.events ++ e ∷ []) ++ take i es) o.allowance
              ∙ (append_assoc s.line.events (e ∷ []) (take n es) ∙ ap (λ (i : ℕ). s.line.events ++ take i (e ∷ es)) (sym a))));
          live = r.live ∙ (ap (leb (length es)) o.allowance ∙ (sym (one_less (length es) n) ∙ ap (leb (suc (length es))) (sym a)));
        }

module _ (t : Terms) (lawful : Lawful t.rows) (x : ObjectId) where
  -- a killed client is told of none
  silent_all : (name : ℕ) (gs : List (Option Global)) (s : Seat) → is_live s.client.state ≡ false → announce_all t x name gs s ≡ s
  silent_all name [] s d = refl
  silent_all name (None ∷ gs) s d = silent_all (name + 1) gs s d
  silent_all name (Some g ∷ gs) s d =
      let e : cond g.disabled s (announce t x name g s) ≡ s = cond_both g.disabled s (announce t x name g s) (λ (q : Seat). q ≡ s) (λ _. refl) (λ _. announce_silent t x name g s d) in
      ap (announce_all t x (name + 1) gs) e ∙ silent_all (name + 1) gs s d

  all_told : (name : ℕ) (gs : List (Option Global)) (k : Client) (s : Seat) → s.client ≡ k → is_live k.state ≡ true → Told s (announcements t x k name gs) (announce_all t x name gs s)
  all_told name [] k s e l = told_none s (ap (λ (q : Client). is_live q.state) e ∙ l)
  all_told name (None ∷ gs) k s e l = all_told (name + 1) gs k s e l
  all_told name (Some g ∷ gs) k s e l =
      go (λ q f. all_told (name + 1) gs k q (f ∙ e) l) g.disabled (visible t x.client k name g) (ap (λ (q : Client). visible t x.client q name g) e)
    where
      alive : is_live s.client.state ≡ true
      alive = ap (λ (q : Client). is_live q.state) e ∙ l

      go : ((q : Seat) → q.client ≡ s.client → Told q (announcements t x k (name + 1) gs) (announce_all t x (name + 1) gs q)) → (d v : Bool) → visible t x.client s.client name g ≡ v
          → Told s (cond (not d && v) (announcement t x name g ∷ announcements t x k (name + 1) gs) (announcements t x k (name + 1) gs))
          (announce_all t x (name + 1) gs (cond d s (announce t x name g s)))
      go rest true v f = rest s refl
      go rest false true f =
          subst (λ (q : Seat). Told s (announcement t x name g ∷ announcements t x k (name + 1) gs) (announce_all t x (name + 1) gs q))
          (sym (cond-true (visible t x.client s.client name g) _ s f ∙ cond-true (is_live s.client.state) _ s alive))
          (told_more (announcement t x name g) (announcements t x k (name + 1) gs) s (announce_all t x (name + 1) gs) (announcement_sendable t lawful x name g) alive rest (silent_all (name + 1) gs))
      go rest false false f =
          subst (λ (q : Seat). Told s (announcements t x k (name + 1) gs) (announce_all t x (name + 1) gs q)) (sym (cond-false (visible t x.client s.client name g) _ s f)) (rest s refl)

  all_same : (name : ℕ) (gs : List (Option Global)) (s : Seat) → (announce_all t x name gs s).client.serial ≡ s.client.serial
  all_same name [] s = refl
  all_same name (None ∷ gs) s = all_same (name + 1) gs s
  all_same name (Some g ∷ gs) s =
      all_same (name + 1) gs (cond g.disabled s (announce t x name g s))
      ∙ cond_both g.disabled s (announce t x name g s) (λ (q : Seat). q.client.serial ≡ s.client.serial) (λ _. refl) (λ _. announce_same t x name g s)

-- The step.

record Registers (p : Place) (s : Seat) (x : ObjectId) (after : Seat) : Type 0 where
  own : x.client ≡ p.client
  serial : after.client.serial ≡ s.client.serial
  told : Told s (announcements p.terms x s.client 1 p.registry.globals.places) after

-- an answer that is a new registry's tells of the globals
abbrev Hears : Place → Seat → StepAnswer → Seat → Type 0
Hears p s Idle after = Unit {0}
Hears p s Closed after = Unit {0}
Hears p s (Synced e) after = Unit {0}
Hears p s (Registered x) after = Registers p s x after
Hears p s (Plain x) after = Unit {0}
Hears p s (Making x) after = Unit {0}
Hears p s (Failed e) after = Unit {0}

abbrev Heard : Place → Seat → Stepped → Type 0
Heard p s r = Hears p s r.answer r.seat

module _ (p : Place) (lawful : Lawful p.terms.rows) where
  out_heard : (z : Seat) (o : Origin) (v : Option ObjectId) (os : List (Option ObjectId)) (s : Seat) (b : Buffers) → Heard p z (hand_out p o v os s b)
  out_heard z o None os s b = tt
  out_heard z o (Some child) os s b = tt

  concluded_heard : (z : Seat) (o : Origin) (f : Option Failing) (r : Walked) (b : Buffers) → Heard p z (concluded p o f r b)
  concluded_heard z o (Some f) r b = tt
  concluded_heard z o None r b = out_heard z o r.child r.objects r.seat b

  module _ (s : Seat) (b : Buffers) (l : is_live s.client.state ≡ true) where
    synced_heard : (id : ℕ) (r : Result (Unit {0}) MapFault) → Heard p s (synced p id r s b)
    synced_heard id (Err f) = tt
    synced_heard id (Ok u) = tt

    enlisted_heard : (id : ℕ) (v : Option ℕ) → Heard p s (enlisted p id v s b)
    enlisted_heard id None = tt
    enlisted_heard id (Some i) =
        let x = fresh p.client id 2 s.client in
        let q = enter p.client id 2 1 Own s in
        record {
          own = refl;
          serial = all_same p.terms lawful x 1 p.registry.globals.places q;
          told = let h = all_told p.terms lawful x 1 p.registry.globals.places q.client q refl l in record { line = h.line; live = h.live };
        }

    registered_heard : (id : ℕ) (r : Result (Unit {0}) MapFault) → Heard p s (registered p id r s b)
    registered_heard id (Err f) = tt
    registered_heard id (Ok u) = enlisted_heard id (roll_end p.registry.roll)

    displayed_heard : (opcode : ℕ) (v : Option ℕ) → Heard p s (displayed p opcode v s b)
    displayed_heard opcode None = tt
    displayed_heard opcode (Some id) =
        cond_both (eqb opcode 0) _ _ (Heard p s) (λ _. synced_heard id (insert_answer s.client.map id)) (λ _. registered_heard id (insert_answer s.client.map id))

    bind_entered_heard : (o : Origin) (name version id : ℕ) (g : Global) (r : Result (Unit {0}) MapFault) → Heard p s (bind_entered p o name version id g r s b)
    bind_entered_heard o name version id g (Err f) = tt
    bind_entered_heard o name version id g (Ok u) = tt

    bind_to_heard : (o : Origin) (name : ℕ) (interface : List ℕ) (version id : ℕ) (g : Option Global) → Heard p s (bind_to p o name interface version id g s b)
    bind_to_heard o name interface version id None = tt
    bind_to_heard o name interface version id (Some g) = bind_entered_heard o name version id g (insert_answer s.client.map id)

    bind_named_heard : (o : Origin) (name : ℕ) (text : Option Part) (version id : ℕ) → Heard p s (bind_named p o name text version id s b)
    bind_named_heard o name None version id = tt
    bind_named_heard o name (Some text) version id = bind_to_heard o name _ version id _

    bound_heard : (o : Origin) (a : Option (BindAsked Part)) → Heard p s (bound p o a s b)
    bound_heard o None = tt
    bound_heard o (Some a) = bind_named_heard o a.name a.interface a.version a.new_id

    asked_heard : (o : Origin) (x : Object ObjectData) (m : MessageModel) (as' : List (Argument ℕ Part)) → Heard p s (asked p o x m as' s b)
    asked_heard o x m as' =
        cond_both (ltb x.version m.since) _ _ (Heard p s) (λ _. tt)
        (λ _. let r = walk p.terms (record { sender = o.sender; version = x.version; message = m }) 0 m.kinds as' None m.rows s in concluded_heard s o r.fault r b)

    dispatched_heard : (o : Origin) (x : Object ObjectData) (m : MessageModel) (as' : List (Argument ℕ Part)) → Heard p s (dispatched p o x m as' s b)
    dispatched_heard o x m as' =
        cond_both (eqb x.row 1) _ _ (Heard p s) (λ _. displayed_heard o.opcode (only_new_id as'))
        (λ _. cond_both (eqb x.row 2) _ _ (Heard p s) (λ _. bound_heard o (bind_arguments as')) (λ _. asked_heard o x m as'))

  -- a request that is taken off the line leaves its events and its allowance
  received_heard : (m : MessageModel) (s : Seat) (b : Buffers) (a : StepAnswer) (after : Seat) → Hears p (received_at m s b) a after → Hears p s a after
  received_heard m s b Idle after h = tt
  received_heard m s b Closed after h = tt
  received_heard m s b (Synced e) after h = tt
  received_heard m s b (Registered x) after h = record { own = h.own; serial = h.serial; told = record { line = h.told.line; live = h.told.live } }
  received_heard m s b (Plain x) after h = tt
  received_heard m s b (Making x) after h = tt
  received_heard m s b (Failed e) after h = tt

  module _ (s : Seat) (b : Buffers) (l : is_live s.client.state ≡ true) where
    read_heard : (o : Origin) (x : Object ObjectData) (m : MessageModel) (c : Option Content) → Heard p s (read_in p o x m c s b)
    read_heard o x m None = tt
    read_heard o x m (Some c) =
        let r = dispatched p o x m c.arguments (received_at m s b) (filled c b) in
        received_heard m s b r.answer r.seat (dispatched_heard (received_at m s b) (filled c b) l o x m c.arguments)

    message_heard : (id opcode : ℕ) (x : Object ObjectData) (m : Option MessageModel) → Heard p s (of_message p id opcode x m s b)
    message_heard id opcode x None = tt
    message_heard id opcode x (Some m) = read_heard (origin_of p.client id opcode x m) x m (reads (length b.body) m.kinds s.line)

    sender_heard : (id opcode : ℕ) (x : Option (Object ObjectData)) → Heard p s (of_sender p id opcode x s b)
    sender_heard id opcode None = tt
    sender_heard id opcode (Some x) = message_heard id opcode x (request_in p.terms.rows x.row opcode)

    stepped_heard : (d : Head) → Heard p s (stepped p d s b)
    stepped_heard head.Nothing = tt
    stepped_heard head.Broken = tt
    stepped_heard (head.Request id opcode) = sender_heard id opcode (find_in s.client.map id)

-- The call.

module _ (t : Terms) (lawful : Lawful t.rows) (c : ClientId) (b : Buffers) (w : World) (x : ObjectId) (k : Client) (there : client_at w c ≡ Some k) where
  abbrev Hearing : World → Type 0
  Hearing v = (x.client ≡ c) × Tells c w (announcements t x k 1 w.engine.registry.globals.places) v

  -- a step that is not refused is one of a client that lives
  lives : (q : Client) → step_check c b w ≡ Ok q → (q ≡ k) × (is_live k.state ≡ true)
  lives q e =
      let roomy_first = passed (unless (roomy b) BadSize) _ q e in
      let free = passed (unless (is_free w.engine.outstanding) TicketOutstanding) _ q roomy_first.2 in
      let here = passed (the_client w c) _ q free.2 in
      let living = passed (unless (is_live here.0.state) ClientKilled) _ q here.2 in
      let first : here.0 ≡ k = some_is here.0 k (sym (the_client_lem w c here.0 here.1) ∙ there) in
      (sym (ok_is here.0 q living.2) ∙ first, ap (λ (a : Client). is_live a.state) (sym first) ∙ required (is_live here.0.state) ClientKilled living.0 living.1)

  registering : (r : Stepped) → Registers (record { terms = t; registry = w.engine.registry; client = c }) (seat c k (from w)) x r.seat → Hearing (step_run c w r).world
  registering r g = (
    g.own,
    record {
      line = ap (λ (l : Line). l.events) (cond-true (eqb c.place c.place) r.seat.line (w.lines c.place) (eq-eqb c.place c.place refl)) ∙ g.told.line;
      live = λ q e. ap (λ (a : Client). is_live a.state) (some_is q r.seat.client (sym e ∙ client_same w c k there r.seat.client g.serial)) ∙ g.told.live;
    },
  )

  by_check : (r : Result Client Refusal) → step_check c b w ≡ r → (checked step_answer r w (step_act t c b w)).answer ≡ step_answer (Ok (Registered x))
      → Hearing (checked step_answer r w (step_act t c b w)).run.world
  by_check (Err f) q a = let y : ◌≡◌ {A = ℕ} 0 1 = cc in absurd (omega arith)
  by_check (Ok q) e a =
      let same : (step_of t c b w q).answer ≡ Registered x = cc in
      let first = lives q e in
      let here = subst (λ (y : Client). (step_of t c b w y).answer ≡ Registered x) first.0 same in
      let p : Place = record { terms = t; registry = w.engine.registry; client = c } in
      subst (λ (y : Client). Hearing (step_act t c b w y).run.world) (sym first.0)
      (registering (step_of t c b w k)
      (subst (λ (y : StepAnswer). Hears p (seat c k (from w)) y (step_of t c b w k).seat) here (stepped_heard p lawful (seat c k (from w)) b first.1 (head_of (w.lines c.place)))))

pub new_registry_hears_globals : NewRegistryHearsGlobals
new_registry_hears_globals t lawful c b w x a k there = by_check t lawful c b w x k there (step_check c b w) refl a
