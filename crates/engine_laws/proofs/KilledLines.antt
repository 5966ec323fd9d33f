-- A killed client hears only delete_id events.
use Rattle.std.proofs.Common.{◌≡◌, ℕ, ◌+◌, ◌-◌, Bool, true, false, cond, not, ◌≢◌, eqb, ltb, List, [], ◌∷◌, ◌++◌, Some, None, Ok, Err, Option, Result, sym, refl, ap, ◌∙◌, subst, inl, inr, ⊎_elim, append_assoc, arith}
use Rattle.std.proofs.lemmas.Bool.{cond_both, cond-true, cond-false, both_ways, eq-eqb, ne_eqb, ltb-true}
use Rattle.std.proofs.lemmas.List.{append-nil}
use Rattle.places.specs.Places.{at}
use Rattle.map.specs.declared.DataMark.{DataMark}
use Rattle.map.specs.declared.DataMark.TheVariants.{Number}
use Rattle.map.specs.declared.Object.{Object}
use Rattle.map.specs.declared.ObjectData.{ObjectData}
use Rattle.map.specs.Map.{limit, find_in, new_answer}
use Rattle.protocol.specs.declared.refusal.Refusal.{Refusal}
use Rattle.protocol.specs.declared.refusal.Refusal.TheVariants.{BadSize, TicketOutstanding, ClientKilled, Reserved, NoVacancy}
use Rattle.message.specs.Events.{EventModel, sendable}
use Rattle.wire.specs.Line.{Line, write_answer, written, with_event}
use Rattle.wire.specs.declared.answers.WriteError.{WriteError}
use Rattle.backend.specs.declared.ids.ClientId.{ClientId}
use Rattle.backend.specs.declared.ids.ObjectId.{ObjectId}
use Rattle.backend.specs.declared.ids.GlobalId.{GlobalId}
use Rattle.backend.specs.declared.client.Client.{Client}
use Rattle.backend.specs.declared.client.ClientState.{ClientState}
use Rattle.backend.specs.declared.client.ClientState.TheVariants.{Live, Untold, Told}
use Rattle.backend.specs.declared.client.DisconnectReason.{DisconnectReason}
use Rattle.backend.specs.declared.client.End.{End}
use Rattle.backend.specs.declared.registry.Global.{Global}
use Rattle.backend.specs.declared.ticket.Origin.{Origin}
use Rattle.backend.specs.declared.ticket.Outstanding.TheVariants as out
use Rattle.backend.specs.declared.answers.KillAnswer.{KillAnswer}
use Rattle.backend.specs.Tickets.{same_ticket}
use Rattle.backend.specs.Ids.{same_client}
use Rattle.backend.specs.Events.{delete_id, global_remove}
use Rattle.backend.specs.World.{Terms, World, is_live, named, client_at, with_state}
use Rattle.backend.specs.Acts.{Act, entered, ended, took, refused, received, flushed as act_flushed, opened, Seat, Run, from, seat, seated, resumed, kill, lost, heard, offer, flush, remove, end}
use Rattle.backend.specs.Registries.{announce, retract, visit, along_roll}
use Rattle.backend.specs.Requests.{Buffers}
use Rattle.backend.specs.Checks.{unless, present, the_client, the_owned, the_row, the_global, Owned}
use Rattle.backend.specs.Sending.{SendArgument, sent_event, Sendable, send_checks}
use Rattle.backend.specs.Calls.{Done, display_id, new_client_id, admit_check, admit_act, roomy, is_free, step_check, step_of, step_act, living, sender_ends, settle_sender, child_set, settle_child, end_in, making_act, Creating, create_check, create_act, create_seat, destroy_check, destroy_act, mark_of, SendingTo, sendable_to, send_check, send_seat, send_run, send_act, set_act, next_handle, postable, post_check, post_act, kill_check, kill_act, reason_check, add_check, new_global, add_world, add_act, disabled_global, global_put, disable_run, disable_act, remove_act, flush_act, Found, found_id, lowest_killed, tidy_end, tidy_act, tidy_at, tidy_done}
use Rattle.backend.specs.Perform.{Call, admit, step, settle_plain, settle_making, create, destroy, send, look, set, find, next, post, kill as kill_call, add, disable, remove as remove_call, flush as flush_call, tidy, Answer, admitted, stepped, created, destroyed, sent, looked, changed, found, found_next, posted, killed, added, disabled, removed, flushed, checked, Outcome, perform}
use Rattle.accounts.specs.Accounts.{acts_of, Killed}
use Rattle.accounts.proofs.Books.{some_is}
use Rattle.accounts.proofs.Seats.{struck_dead}
use Rattle.accounts.proofs.Kept.{same_id, cases_client, acts_own, acts_other, named_is, named_same, client_same, client_other}
use Rattle.accounts.proofs.Checked.{passed, required, ok_is, never_ok, the_client_lem, the_owned_lem}
use Rattle.engine_laws.specs.Killed.{IsDeleteId, AllDeleteIds, PutsOnlyDeleteIds, GainsDeleteIds, KilledHearOnlyDeleteId}
use Rattle.accounts.proofs.Sought.{lowest_killed_lem, living_owner, next_alive}
use Rattle.engine_laws.proofs.Silence.{tell_same, tell_silent, announce_same, announce_silent}

-- Lists of events and of acts.

both_delete : (xs ys : List EventModel) → AllDeleteIds xs → AllDeleteIds ys → AllDeleteIds (xs ++ ys)
both_delete [] ys a b = b
both_delete (x ∷ xs) ys a b = (a.0, both_delete xs ys a.1 b)

both_put : (as' bs : List Act) → PutsOnlyDeleteIds as' → PutsOnlyDeleteIds bs → PutsOnlyDeleteIds (as' ++ bs)
both_put [] bs a b = b
both_put (entered x ∷ as') bs a b = both_put as' bs a b
both_put (ended e ∷ as') bs a b = both_put as' bs a b
both_put (took e ∷ as') bs a b = (a.0, both_put as' bs a.1 b)
both_put (refused e ∷ as') bs a b = (a.0, both_put as' bs a.1 b)
both_put (received ∷ as') bs a b = both_put as' bs a b
both_put (act_flushed ∷ as') bs a b = both_put as' bs a b
both_put (opened ∷ as') bs a b = both_put as' bs a b

gains_none : (es : List EventModel) → GainsDeleteIds es es
gains_none es = ([], tt, inl (sym (append-nil es)))

gains_on : (a b d : List EventModel) → GainsDeleteIds a b → GainsDeleteIds b d → GainsDeleteIds a d
gains_on a b d g (n, m, inr q) = (n, m, inr q)
gains_on a b d (i, j, inl p) (n, m, inl q) = (i ++ n, both_delete i n j m, inl (q ∙ (ap (λ (xs : List EventModel). xs ++ n) p ∙ append_assoc a i n)))
gains_on a b d (i, j, inr p) (n, m, inl q) = (i ++ n, both_delete i n j m, inr (q ∙ ap (λ (xs : List EventModel). xs ++ n) p))

-- At the seat of a killed client.

record Hush (l : List EventModel) (s : Seat) : Type 0 where
  dead : is_live s.client.state ≡ false
  events : PutsOnlyDeleteIds s.acts
  line : GainsDeleteIds l s.line.events

pub lost_dead : (r : Result (Unit {0}) WriteError) (k : Client) → is_live k.state ≡ false → is_live (lost r k).state ≡ false
lost_dead (Ok u) k d = d
lost_dead (Err e) k d = struck_dead _ k.state

heard_put : (r : Result (Unit {0}) WriteError) (e : EventModel) (as' : List Act) → IsDeleteId e → PutsOnlyDeleteIds as' → PutsOnlyDeleteIds (heard r e ∷ as')
heard_put (Ok u) e as' d a = (d, a)
heard_put (Err x) e as' d a = (d, a)

written_gains : (e : EventModel) (l : Line) → IsDeleteId e → GainsDeleteIds l.events (written e l).events
written_gains e l d = go (eqb l.allowance 0) (sendable e)
  where
    go : (a b : Bool) → GainsDeleteIds l.events (cond a l (cond b (with_event e l) l)).events
    go true b = gains_none l.events
    go false true = (e ∷ [], (d, tt), inl refl)
    go false false = gains_none l.events

module _ {l : List EventModel} where
  offer_hush : (e : EventModel) → IsDeleteId e → (s : Seat) → Hush l s → Hush l (offer e s)
  offer_hush e d s h = record {
    dead = lost_dead (write_answer e s.line) s.client h.dead;
    events = heard_put (write_answer e s.line) e s.acts d h.events;
    line = gains_on l s.line.events (written e s.line).events h.line (written_gains e s.line d);
  }

  flush_hush : (s : Seat) → Hush l s → Hush l (flush s)
  flush_hush s h = record { dead = h.dead; events = h.events; line = ([], tt, inr refl) }

  remove_hush : (x : ObjectId) (mark : DataMark) (s : Seat) → Hush l s → Hush l (remove x mark s)
  remove_hush x mark s h = record { dead = h.dead; events = h.events; line = h.line }

  end_hush : (x : ObjectId) (mark : DataMark) (s : Seat) → Hush l s → Hush l (end x mark s)
  end_hush x mark s h =
      remove_hush x mark (cond (ltb x.id limit) (offer (delete_id x.id) s) s)
      (cond_both (ltb x.id limit) (offer (delete_id x.id) s) s (λ (q : Seat). Hush l q) (λ b. offer_hush (delete_id x.id) (x.id, ltb-true x.id limit b, refl) s h) (λ _. h))

sits : (c : ClientId) (k : Client) (r : Run) → is_live k.state ≡ false → Hush (r.world.lines c.place).events (seat c k r)
sits c k r d = record { dead = d; events = tt; line = gains_none (r.world.lines c.place).events }

-- In a run.

module _ (w : World) (c : ClientId) where
  record Hears (r : Run) : Type 0 where
    events : PutsOnlyDeleteIds (acts_of c r.deeds)
    line : GainsDeleteIds (w.lines c.place).events (r.world.lines c.place).events

  still : Hears (from w)
  still = record { events = tt; line = gains_none (w.lines c.place).events }

  -- what is done to other parts of a world is not heard
  relined : (r : Run) (v : World) → v.lines c.place ≡ r.world.lines c.place → Hears r → Hears (record { world = v; deeds = r.deeds })
  relined r v e h = record { events = h.events; line = subst (λ (l : Line). GainsDeleteIds (w.lines c.place).events l.events) (sym e) h.line }

  -- two clients that are there have two places
  pub apart : (v : World) (d : ClientId) (k q : Client) → client_at v d ≡ Some k → client_at v c ≡ Some q → c ≢ d → c.place ≢ d.place
  apart v d k q there here ne e =
      let a = named_is d (at v.engine.store.clients.places d.place) k there in
      let b = named_is c (at v.engine.store.clients.places c.place) q here in
      let s : q ≡ k = some_is q k (sym b.0 ∙ (ap (at v.engine.store.clients.places) e ∙ a.0)) in
      ne (same_id c d e (sym b.1 ∙ (ap (λ (x : Client). x.serial) s ∙ a.1)))

  -- the client that is there under both handles
  pub one_client : (v : World) (d : ClientId) (k : Client) → client_at v d ≡ Some k → Killed v c → c ≡ d → is_live k.state ≡ false
  one_client v d k there (q, here, dead) e = subst (λ (x : Client). is_live x.state ≡ false) (some_is q k (sym here ∙ (ap (client_at v) e ∙ there))) dead

  resumed_hears : (r : Run) → Hears r → Killed r.world c → (d : ClientId) (k : Client) → client_at r.world d ≡ Some k
      → (s : Seat) → (is_live k.state ≡ false → Hush (r.world.lines d.place).events s) → Hears (resumed d s r)
  resumed_hears r h dead d k there s hush =
      ⊎_elim (λ e. subst (λ (x : ClientId). Hears (resumed x s r)) e (own (subst (λ (x : ClientId). Hush (r.world.lines x.place).events s) (sym e) (hush (one_client r.world d k there dead e)))))
      other (cases_client c d)
    where
      own : Hush (r.world.lines c.place).events s → Hears (resumed c s r)
      own q = record {
        events = subst PutsOnlyDeleteIds (sym (acts_own c s.acts r.deeds)) (both_put s.acts (acts_of c r.deeds) q.events h.events);
        line =
            subst (λ (l : Line). GainsDeleteIds (w.lines c.place).events l.events) (sym (cond-true (eqb c.place c.place) s.line (r.world.lines c.place) (eq-eqb c.place c.place refl)))
            (gains_on (w.lines c.place).events (r.world.lines c.place).events s.line.events h.line q.line);
      }

      other : c ≢ d → Hears (resumed d s r)
      other ne = record {
        events = subst PutsOnlyDeleteIds (sym (acts_other d c s.acts r.deeds ne)) h.events;
        line =
            subst (λ (l : Line). GainsDeleteIds (w.lines c.place).events l.events)
            (sym (cond-false (eqb c.place d.place) s.line (r.world.lines c.place) (ne_eqb c.place d.place (apart r.world d k dead.0 there dead.1 ne)))) h.line;
      }

  pub killed_then : (r : Run) → Killed r.world c → (d : ClientId) (k : Client) → client_at r.world d ≡ Some k
      → (s : Seat) → s.client.serial ≡ k.serial → (is_live k.state ≡ false → is_live s.client.state ≡ false) → Killed (resumed d s r).world c
  killed_then r dead d k there s same keeps =
      ⊎_elim
      (λ e. (s.client, ap (client_at (seated d s r.world)) e ∙ client_same r.world d k there s.client same, keeps (one_client r.world d k there dead e)))
      (λ ne. (dead.0, client_other r.world d k there s.client same c ne ∙ dead.1, dead.2))
      (cases_client c d)

  -- along the roll, where a killed client is told nothing
  module _ (f : ObjectId → Seat → Seat) (same : (x : ObjectId) (s : Seat) → (f x s).client.serial ≡ s.client.serial) (silent : (x : ObjectId) (s : Seat) → is_live s.client.state ≡ false → f x s ≡ s) where
    silent_hush : (x : ObjectId) (k : Client) (r : Run) → is_live k.state ≡ false → Hush (r.world.lines x.client.place).events (f x (seat x.client k r))
    silent_hush x k r d = subst (Hush (r.world.lines x.client.place).events) (sym (silent x (seat x.client k r) d)) (sits x.client k r d)

    visit_hears : (x : ObjectId) (v : Option Client) (r : Run) → client_at r.world x.client ≡ v → Killed r.world c → Hears r → Hears (visit x.client (f x) v r)
    visit_hears x None r e dead h = h
    visit_hears x (Some k) r e dead h = resumed_hears r h dead x.client k e (f x (seat x.client k r)) (silent_hush x k r)

    pub visit_killed : (x : ObjectId) (v : Option Client) (r : Run) → client_at r.world x.client ≡ v → Killed r.world c → Killed (visit x.client (f x) v r).world c
    visit_killed x None r e dead = dead
    visit_killed x (Some k) r e dead = killed_then r dead x.client k e (f x (seat x.client k r)) (same x (seat x.client k r)) (λ d. (silent_hush x k r d).dead)

    along_hears : (xs : List (Option ObjectId)) (r : Run) → Killed r.world c → Hears r → Hears (along_roll f xs r)
    along_hears [] r dead h = h
    along_hears (None ∷ xs) r dead h = along_hears xs r dead h
    along_hears (Some x ∷ xs) r dead h =
        along_hears xs (visit x.client (f x) (client_at r.world x.client) r)
        (visit_killed x (client_at r.world x.client) r refl dead) (visit_hears x (client_at r.world x.client) r refl dead h)

-- The calls.

-- the killed client that is found stands at its place
pub found_there : (p : ℕ) (ks : List (Option Client)) (f : Found) → lowest_killed p ks ≡ Some f → (i : ℕ) × (f.place ≡ p + i) × (at ks i ≡ Some f.client)
found_there p ks f e = let g = lowest_killed_lem p ks f e in (f.place - p, omega (arith, g.0), g.1)

-- the handles that next finds are the client's own
pub next_own : (d : ClientId) (k : Client) (i : ℕ) (y : ObjectId) → next_handle d k i ≡ Some y → y.client ≡ d
next_own d k i y e = let g = next_alive d k i y e in g.0

module _ (t : Terms) (w : World) (c : ClientId) (dead : Killed w c) where
  abbrev H : Run → Type 0
  H r = Hears w c r

  -- what is done at one client
  at_client : (d : ClientId) (k : Client) → client_at w d ≡ Some k → (s : Seat) → (is_live k.state ≡ false → Hush (w.lines d.place).events s) → H (resumed d s (from w))
  at_client d k there s hush = resumed_hears w c (from w) (still w c) dead d k there s hush

  -- and where it lives, which the killed one does not
  at_live : (d : ClientId) (k : Client) → client_at w d ≡ Some k → is_live k.state ≡ true → (s : Seat) → H (resumed d s (from w))
  at_live d k there l s = at_client d k there s (λ q. absurd (both_ways (is_live k.state) q l))

  checked_hears : {P A : Type 0} (says : Result A Refusal → Answer) (r : Result P Refusal) (act : P → Done A) → ((p : P) → r ≡ Ok p → H (act p).run) → H (checked says r w act).run
  checked_hears says (Err e) act fine = still w c
  checked_hears says (Ok p) act fine = fine p refl

  admit_hears : (d p : ℕ) → H (admit_act d w p).run
  admit_hears d p = record {
    events = go (same_client c (new_client_id p w));
    line = cond_both (eqb c.place p) _ _ (λ (l : Line). GainsDeleteIds (w.lines c.place).events l.events) (λ _. ([], tt, inr refl)) (λ _. gains_none (w.lines c.place).events);
  }
    where
      go : (b : Bool) → PutsOnlyDeleteIds (cond b (entered (display_id (new_client_id p w)) ∷ cond b (opened ∷ []) []) (cond b (opened ∷ []) []))
      go true = tt
      go false = tt

  step_hears : (d : ClientId) (b : Buffers) (k : Client) → step_check d b w ≡ Ok k → H (step_act t d b w k).run
  step_hears d b k q =
      let roomy_first = passed (unless (roomy b) BadSize) _ k q in
      let free = passed (unless (is_free w.engine.outstanding) TicketOutstanding) _ k roomy_first.2 in
      let there = passed (the_client w d) _ k free.2 in
      let living = passed (unless (is_live there.0.state) ClientKilled) _ k there.2 in
      let same = ok_is there.0 k living.2 in
      relined w c _ (step_act t d b w k).run.world refl
      (at_live d k (the_client_lem w d there.0 there.1 ∙ ap (λ (a : Client). Some a) same)
      (ap (λ (a : Client). is_live a.state) (sym same) ∙ required (is_live there.0.state) ClientKilled living.0 living.1) (step_of t d b w k).seat)

  end_hears : (x : ObjectId) (mark : DataMark) (k : Client) → client_at w x.client ≡ Some k → H (end_in x mark k (from w))
  end_hears x mark k there = relined w c _ (end_in x mark k (from w)).world refl (at_client x.client k there _ (λ d. end_hush x mark (seat x.client k (from w)) (sits x.client k (from w) d)))

  sender_hears : (o : Origin) (v : Option Owned) → living w o.sender ≡ v → H (sender_ends o v (from w)).run
  sender_hears o None e = still w c
  sender_hears o (Some x) e = end_hears o.sender o.«data» x.client (living_owner w o.sender x e).there

  settle_sender_hears : (o : Origin) → H (settle_sender o (from w)).run
  settle_sender_hears o = cond_both o.destructor _ _ (λ (d : Done (Option End)). H d.run) (λ _. sender_hears o (living w o.sender) refl) (λ _. still w c)

  child_hears : (x : ObjectId) (d : ℕ) (v : Option Owned) (r : Run) → H r → H (child_set x d v r).run
  child_hears x d None r h = h
  child_hears x d (Some o) r h = relined w c r _ refl h

  making_hears : (o : Origin) (x : ObjectId) (d : ℕ) → H (making_act o x d w).run
  making_hears o x d =
      let s = settle_sender o (from w) in relined w c (settle_child x d s.run).run _ refl (child_hears x d (living s.run.world x) s.run (settle_sender_hears o))

  create_hears : (d : ClientId) (row version n : ℕ) (x : Creating) → create_check t d row w ≡ Ok x → H (create_act d row version n w x).run
  create_hears d row version n x e =
      let p = passed (the_client w d) _ x e in
      let q = passed (the_row t.rows row) _ x p.2 in
      let r = passed (present (new_answer p.0.map) NoVacancy) _ x q.2 in
      let same : record { client = p.0; id = r.0 } ≡ x = ok_is (record { client = p.0; id = r.0 }) x r.2 in
      at_client d x.client (the_client_lem w d p.0 p.1 ∙ ap (λ (y : Creating). Some y.client) same) (create_seat d x.id row version (Number n) (seat d x.client (from w)))
      (λ k. record { dead = k; events = tt; line = gains_none (w.lines d.place).events })

  destroy_hears : (x : ObjectId) (o : Owned) → destroy_check x w ≡ Ok o → H (destroy_act x w o).run
  destroy_hears x o e =
      let p = passed (the_owned w x) _ o e in
      let q = passed (unless (not (eqb x.id 1)) Reserved) _ o p.2 in
      end_hears x (mark_of o) o.client (the_owned_lem w x o (p.1 ∙ ap (λ (y : Owned). Ok y) (ok_is p.0 o q.2))).there

  -- to a killed client nothing is sent
  send_hears : (x : ObjectId) (opcode : ℕ) (as' : List SendArgument) (to : SendingTo) → send_check t x opcode as' w ≡ Ok to → H (send_act x opcode as' w to).run
  send_hears x opcode as' to e =
      let p = passed (unless (sendable (sent_event x opcode as')) BadSize) _ to e in
      let q = passed (the_client w x.client) _ to p.2 in
      go q.0 (the_client_lem w x.client q.0 q.1) (is_live q.0.state) refl q.2
    where
      run_hears : (a : Client) → client_at w x.client ≡ Some a → is_live a.state ≡ true → (s : Sendable) → H (send_run x opcode as' s a w)
      run_hears a there l s =
          relined w c (resumed x.client (send_seat x opcode as' s (seat x.client a (from w))) (from w)) _
          (cond_both s.message.destructor _ _ (λ (v : World). v.lines c.place ≡ (resumed x.client (send_seat x opcode as' s (seat x.client a (from w))) (from w)).world.lines c.place) (λ _. refl) (λ _. refl))
          (at_live x.client a there l _)

      by_checks : (a : Client) → client_at w x.client ≡ Some a → is_live a.state ≡ true → (r : Result Sendable Refusal) → sendable_to a r ≡ Ok to → H (send_act x opcode as' w to).run
      by_checks a there l (Err f) q = absurd (never_ok f to q)
      by_checks a there l (Ok s) q = subst (λ (y : SendingTo). H (send_act x opcode as' w y).run) (ok_is (record { client = a; what = Some s }) to q) (run_hears a there l s)

      go : (a : Client) → client_at w x.client ≡ Some a → (b : Bool) → is_live a.state ≡ b
          → cond b (sendable_to a (send_checks t.rows a x opcode as')) (Ok (record { client = a; what = None })) ≡ Ok to → H (send_act x opcode as' w to).run
      go a there true l q = by_checks a there l (send_checks t.rows a x opcode as') q
      go a there false l q = subst (λ (y : SendingTo). H (send_act x opcode as' w y).run) (ok_is (record { client = a; what = None }) to q) (still w c)

  post_hears : (x : ObjectId) (code : ℕ) (text : List ℕ) (k : Client) → post_check x text w ≡ Ok k → H (post_act x code text w k).run
  post_hears x code text k e =
      let p = passed (unless (postable text) BadSize) _ k e in
      cond_both (is_live k.state) _ _ (λ (d : Done KillAnswer). H d.run) (λ l. at_live x.client k (the_client_lem w x.client k p.2) l _) (λ _. still w c)

  kill_hears : (d : ClientId) (r : DisconnectReason) (k : Client) → kill_check t d r w ≡ Ok k → H (kill_act d r w k).run
  kill_hears d r k e =
      let p = passed (the_client w d) _ k e in
      let q = passed (reason_check t r) _ k p.2 in
      cond_both (is_live k.state) _ _ (λ (x : Done KillAnswer). H x.run)
      (λ l. at_live d k (the_client_lem w d k (p.1 ∙ ap (λ (y : Client). Ok y) (ok_is p.0 k q.2))) l (kill r (seat d k (from w)))) (λ _. still w c)

  add_hears : (row version handler p : ℕ) → H (add_act t row version handler w p).run
  add_hears row version handler p =
      let g = new_global row version handler w in
      along_hears w c (λ x s. announce t x (p + 1) g s) (λ x s. announce_same t x (p + 1) g s) (λ x s d. announce_silent t x (p + 1) g s d)
      w.engine.registry.roll (from (add_world p g w)) dead (relined w c (from w) _ refl (still w c))

  disable_hears : (i : GlobalId) (g : Global) → H (disable_run i w g)
  disable_hears i g =
      cond_both g.disabled _ _ H (λ _. still w c)
      (λ _. along_hears w c (retract i.name) (λ x s. tell_same (global_remove x.id i.name) s) (λ x s d. tell_silent (global_remove x.id i.name) s d)
      w.engine.registry.roll (from (global_put i.name (Some (disabled_global g)) w)) dead (relined w c (from w) _ refl (still w c)))

  flush_hears : (d : ClientId) (k : Client) → the_client w d ≡ Ok k → H (flush_act d w k).run
  flush_hears d k e = at_client d k (the_client_lem w d k e) _ (λ q. flush_hush (seat d k (from w)) (sits d k (from w) q))

  tidy_end_hears : (x : ObjectId) (o : Option (Object ObjectData)) (k : Client) → client_at w x.client ≡ Some k → H (tidy_end x o k w).run
  tidy_end_hears x None k there = still w c
  tidy_end_hears x (Some o) k there =
      relined w c _ (tidy_end x (Some o) k w).run.world refl
      (at_client x.client k there (remove x o.«data».mark (seat x.client k (from w))) (λ d. remove_hush x o.«data».mark (seat x.client k (from w)) (sits x.client k (from w) d)))

  tidy_act_hears : (d : ClientId) (s : ClientState) (x : Option ObjectId) (k : Client) → client_at w d ≡ Some k → ((y : ObjectId) → x ≡ Some y → y.client ≡ d) → H (tidy_act d s x k w).run
  tidy_act_hears d Live x k there own = still w c
  tidy_act_hears d (Untold r) x k there own =
      at_client d k there (record { client = with_state Told k; line = w.lines d.place; acts = [] }) (λ q. record { dead = refl; events = tt; line = gains_none (w.lines d.place).events })
  tidy_act_hears d Told (Some x) k there own = tidy_end_hears x (find_in k.map x.id) k (ap (client_at w) (own x refl) ∙ there)
  tidy_act_hears d Told None k there own =
      relined w c _ (tidy_act d Told None k w).run.world refl (at_client d k there (flush (seat d k (from w))) (λ q. flush_hush (seat d k (from w)) (sits d k (from w) q)))

  tidy_at_hears : (v : Option Found) → lowest_killed 0 w.engine.store.clients.places ≡ v → H (tidy_at v w).run
  tidy_at_hears None e = still w c
  tidy_at_hears (Some f) e =
      let g = found_there 0 w.engine.store.clients.places f e in
      let place : f.place ≡ g.0 = omega (arith, g.1) in
      tidy_act_hears (found_id f) f.client.state (next_handle (found_id f) f.client 0) f.client
      (ap (λ (i : ℕ). named (found_id f) (at w.engine.store.clients.places i)) place ∙ (ap (named (found_id f)) g.2 ∙ named_same (found_id f) f.client refl))
      (next_own (found_id f) f.client 0)

  tidy_hears : H (tidy_done w).run
  tidy_hears = tidy_at_hears (lowest_killed 0 w.engine.store.clients.places) refl

  hears : (call : Call) → H (perform t call w).run
  hears (admit d) = checked_hears admitted (admit_check w) (admit_act d w) (λ p e. admit_hears d p)
  hears (step d b) = checked_hears stepped (step_check d b w) (step_act t d b w) (step_hears d b)
  hears (settle_plain x) =
      cond_both (same_ticket w.engine.outstanding (out.Plain x.request)) _ _ (λ (o : Outcome). H o.run)
      (λ _. relined w c (settle_sender x.request (from w)).run _ refl (settle_sender_hears x.request)) (λ _. still w c)
  hears (settle_making x d) =
      cond_both (same_ticket w.engine.outstanding (out.Making x.request)) _ _ (λ (o : Outcome). H o.run) (λ _. making_hears x.request.origin x.request.child d) (λ _. still w c)
  hears (create d row version n) = checked_hears created (create_check t d row w) (create_act d row version n w) (create_hears d row version n)
  hears (destroy x) = checked_hears destroyed (destroy_check x w) (destroy_act x w) (destroy_hears x)
  hears (send x opcode as') = checked_hears sent (send_check t x opcode as' w) (send_act x opcode as' w) (send_hears x opcode as')
  hears (look x) = checked_hears looked (the_owned w x) _ (λ p e. still w c)
  hears (set x d) = checked_hears changed (the_owned w x) (set_act x d w) (λ o e. relined w c (from w) _ refl (still w c))
  hears (find d id) = checked_hears found (the_client w d) _ (λ p e. still w c)
  hears (next d id) = checked_hears found_next (the_client w d) _ (λ p e. still w c)
  hears (post x code text) = checked_hears posted (post_check x text w) (post_act x code text w) (post_hears x code text)
  hears (kill_call d r) = checked_hears killed (kill_check t d r w) (kill_act d r w) (kill_hears d r)
  hears (add row version handler) = checked_hears added (add_check t row version w) (add_act t row version handler w) (λ p e. add_hears row version handler p)
  hears (disable i) = checked_hears disabled (the_global w i) (disable_act i w) (λ g e. disable_hears i g)
  hears (remove_call i) = checked_hears removed (the_global w i) (remove_act i w) (λ g e. relined w c (disable_run i w g) _ refl (disable_hears i g))
  hears (flush_call d) = checked_hears flushed (the_client w d) (flush_act d w) (flush_hears d)
  hears tidy = tidy_hears

pub killed_hear_only_delete_id : KilledHearOnlyDeleteId
killed_hear_only_delete_id t call w c dead = let h = hears t w c dead call in record { deeds = h.events; line = h.line }
