-- Each of the eighteen calls keeps the accounts.
use Rattle.std.proofs.Common.{◌≡◌, ℕ, suc, ◌+◌, ◌-◌, ◌<◌, Bool, true, false, cond, not, eqb, ◌≢◌, List, [], ◌++◌, is_some, Some, None, Ok, Err, Option, Result, sym, refl, ap, ◌∙◌, subst, inl, inr, ⊎_elim, arith}
use Rattle.std.proofs.lemmas.Bool.{cond_both, cases_Bool, cases_eq, both_ways, false≢true, eqb-false, eq-eqb, ne_eqb, not-true, and_from}
use Rattle.places.specs.Places.{at}
use Rattle.map.specs.declared.DataMark.TheVariants.{Number}
use Rattle.map.specs.declared.Object.{Object}
use Rattle.map.specs.declared.ObjectData.{ObjectData}
use Rattle.map.specs.declared.ObjectMap.{ObjectMap}
use Rattle.map.specs.Map.{find_in, new_answer, new_after, next_after}
use Rattle.map.specs.Named.{with_mark, mark_after}
use Rattle.laws.proofs.Find.{new_half}
use Rattle.laws.proofs.Next.{live, last}
use Rattle.protocol.specs.Lawful.{Lawful}
use Rattle.protocol.specs.Meaning.{event_in}
use Rattle.protocol.specs.declared.refusal.Refusal.{Refusal}
use Rattle.protocol.specs.declared.refusal.Refusal.TheVariants.{BadSize, TicketOutstanding, ClientKilled, Reserved, NoVacancy}
use Rattle.wire.specs.Line.{head_of, write_answer}
use Rattle.message.specs.Events.{sendable}
use Rattle.backend.specs.declared.ids.ClientId.{ClientId}
use Rattle.backend.specs.declared.ids.ObjectId.{ObjectId}
use Rattle.backend.specs.declared.ids.GlobalId.{GlobalId}
use Rattle.backend.specs.declared.client.Client.{Client}
use Rattle.backend.specs.declared.client.ClientState.{ClientState}
use Rattle.backend.specs.declared.client.ClientState.TheVariants.{Live, Untold, Told}
use Rattle.backend.specs.declared.client.DisconnectReason.{DisconnectReason}
use Rattle.backend.specs.declared.client.End.{End}
use Rattle.backend.specs.declared.registry.Global.{Global}
use Rattle.backend.specs.declared.answers.KillAnswer.{KillAnswer}
use Rattle.backend.specs.declared.ticket.Origin.{Origin}
use Rattle.backend.specs.declared.ticket.Outstanding.{Outstanding}
use Rattle.backend.specs.declared.ticket.Outstanding.TheVariants as out
use Rattle.backend.specs.Tickets.{PlainTicket, MakingTicket}
use Rattle.backend.specs.Ids.{local_of}
use Rattle.backend.specs.Events.{global_remove}
use Rattle.backend.specs.World.{Terms, World, is_live, client_at, named, with_state, with_map}
use Rattle.backend.specs.Acts.{Act, Deed, Seat, Run, from, in_world, seat, resumed, kill, flush, new_object, offer, remove}
use Rattle.backend.specs.Registries.{off_roll, announce, retract}
use Rattle.backend.specs.Requests.{Buffers}
use Rattle.backend.specs.Checks.{unless, present, alive, the_client, the_object, Owned, the_owned, the_row}
use Rattle.backend.specs.Sending.{SendArgument, sent_event, Sendable, send_checks, reserved_event}
use Rattle.backend.specs.Calls.{Done, admit_check, admit_act, is_free, roomy, step_check, step_of, step_act, living, sender_ends, settle_sender, mark_in, child_set, settle_child, settled, plain_act, making_act, create_seat, Creating, create_check, create_act, destroy_check, destroy_act, mark_of, SendingTo, sendable_to, send_check, send_seat, send_run, send_act, handle_of, handle_if, next_handle, postable, post_check, post_seat, post_act, kill_check, kill_act, reason_check, new_global, add_world, add_act, disabled_global, global_put, disable_run, flush_act, Found, lowest_killed, found_id, tidy_end, tidy_act, tidy_at, tidy_done}
use Rattle.backend.specs.Perform.{Answer, Outcome, checked, stepped, settled_plain, settled_making}
use Rattle.accounts.specs.Shown.{Ticket, plain, making, ticket_of, child_of, Paper, papers_shown}
use Rattle.accounts.specs.Accounts.{acts_of, Paired, comes_back}
use Rattle.accounts.proofs.Living.{none_living}
use Rattle.accounts.proofs.Books.{Alive, some_is, not_vacant, state_books}
use Rattle.accounts.proofs.Turns.{stands_less}
use Rattle.accounts.proofs.Maps.{new_entry, mark_marked}
use Rattle.accounts.proofs.Seats.{Good, Quiet, handle_for, killed_good, tell_good, offer_good, flush_good, fail_good, end_good, remove_good, entry_good, mark_good, quiet_opcode, quiet_sender, lost_map}
use Rattle.accounts.proofs.Kept.{Sender, Kept, apart_from, later_kept, named_same, client_same, admits, vacated_kept}
use Rattle.accounts.proofs.Steps.{announce_good, stepped_good}
use Rattle.accounts.proofs.Checked.{ok_is, never_ok, passed, required, presented, the_client_lem, looked_up, HasOwner, the_owned_lem}
use Rattle.accounts.proofs.Runs.{On, resume_on, seat_on, act_on, off_roll_on, registry_on, end_on, along_on}
use Rattle.accounts.proofs.Sought.{next_alive, Sends, sends, display_stays, lowest_killed_lem, living_owner, waits_nobody}

-- after a call: what is kept, and the tickets
pub record After (g : Option Ticket) (n : ℕ) (ds : List Deed) (ps : List Paper) (o : Outcome) : Type 0 where
  pub kept : Kept (child_of (ticket_of o.run.world.engine.outstanding)) (suc n) (o.run.deeds ++ ds) o.run.world
  pub paired : Paired (papers_shown g o.answer ++ ps) (ticket_of o.run.world.engine.outstanding)

later_on : {v : Option ObjectId} {n : ℕ} {out : Outstanding} {ds : List Deed} (r : Run) → On v n out ds r → On v (suc n) out ds r
later_on r on = record { kept = later_kept (omega arith) on.kept; same = on.same }

module _ (t : Terms) (lawful : Lawful t.rows) (n : ℕ) (ds : List Deed) (w : World) (ps : List Paper) (k : Kept (child_of (ticket_of w.engine.outstanding)) n ds w)
    (pd : Paired ps (ticket_of w.engine.outstanding)) (h : n < 4294967295) where
  abbrev pub out_here : Outstanding
  out_here = w.engine.outstanding

  abbrev pub awaits : Option ObjectId
  awaits = child_of (ticket_of w.engine.outstanding)

  abbrev pub Before : Run → Type 0
  Before r = On awaits n out_here ds r

  abbrev pub Calm : Run → Type 0
  Calm r = On awaits (suc n) out_here ds r

  start : Before (from w)
  start = record { kept = k; same = refl }

  pub still : Calm (from w)
  still = later_on (from w) start

  pub calm : (g : Option Ticket) (o : Outcome) → papers_shown g o.answer ≡ [] → Calm o.run → After g n ds ps o
  calm g o none on = record {
    kept = subst (λ (q : Outstanding). Kept (child_of (ticket_of q)) (suc n) (o.run.deeds ++ ds) o.run.world) (sym on.same) on.kept;
    paired = subst (λ (q : Outstanding). Paired (papers_shown g o.answer ++ ps) (ticket_of q)) (sym on.same) (subst (λ (qs : List Paper). Paired (qs ++ ps) (ticket_of out_here)) (sym none) pd);
  }

  -- a call that hands out and settles nothing
  pub checked_good : {P A : Type 0} (says : Result A Refusal → Answer) → ((r : Result A Refusal) → papers_shown None (says r) ≡ []) → (r : Result P Refusal) (act : P → Done A)
      → ((p : P) → r ≡ Ok p → Calm (act p).run) → After None n ds ps (checked says r w act)
  checked_good says none (Err e) act fine = calm None _ (none (Err e)) still
  checked_good says none (Ok p) act fine = calm None _ (none (Ok (act p).value)) (fine p refl)

  -- what is done at one client
  at_client : (c : ClientId) (a : Client) → client_at w c ≡ Some a → (s : Seat) → Good awaits c n (acts_of c ds) s → Calm (resumed c s (from w))
  at_client c a there s g = later_on (resumed c s (from w)) (act_on (from w) start c a there s g)

  sits : (c : ClientId) (a : Client) → client_at w c ≡ Some a → Good awaits c n (acts_of c ds) (seat c a (from w))
  sits c a there = seat_on (from w) start c a there

  pub admit_good : (d p : ℕ) → admit_check w ≡ Ok p → Calm (admit_act d w p).run
  admit_good d p e = record { kept = subst (λ (es : List Deed). Kept awaits (suc n) es (admit_act d w p).run.world) refl (admits k h d p (presented _ NoVacancy p e)); same = refl }

  pub create_good : (c : ClientId) (row version d : ℕ) (x : Creating) → create_check t c row w ≡ Ok x → Calm (create_act c row version d w x).run
  create_good c row version d x e =
      let p = passed (the_client w c) _ x e in
      let q = passed (the_row t.rows row) _ x p.2 in
      let r = passed (present (new_answer p.0.map) NoVacancy) _ x q.2 in
      let same : record { client = p.0; id = r.0 } ≡ x = ok_is (record { client = p.0; id = r.0 }) x r.2 in
      subst (λ (y : Creating). Calm (create_act c row version d w y).run) same
      (made p.0 r.0 (the_client_lem w c p.0 p.1) (presented (new_answer p.0.map) NoVacancy r.0 r.1))
    where
      made : (a : Client) (id : ℕ) → client_at w c ≡ Some a → new_answer a.map ≡ Some id → Calm (create_act c row version d w (record { client = a; id = id })).run
      made a id there e =
          let o = new_object row version (Number d) a in
          let g = sits c a there in
          let half = new_half a.map id e in
          resume_on (from w) start c a there (suc n) (omega arith) awaits (λ b q ne wait. wait) (create_seat c id row version (Number d) (seat c a (from w)))
          (entry_good h (seat c a (from w)) g id row o (new_after a.map o) (new_entry a.map id o g.books.state.used e) refl refl (λ q. omega (arith, half, q)) (inr half)
          awaits (λ y q. q) (λ q. let z : ◌≡◌ {A = ℕ} 0 1 = cc in absurd (omega arith)))

  pub destroy_good : (x : ObjectId) (o : Owned) → destroy_check x w ≡ Ok o → Calm (destroy_act x w o).run
  destroy_good x o e =
      let p = passed (the_owned w x) _ o e in
      let q = passed (unless (not (eqb x.id 1)) Reserved) _ o p.2 in
      let ne : x.id ≢ 1 = eqb-false x.id 1 (not-true (eqb x.id 1) (required (not (eqb x.id 1)) Reserved q.0 q.1)) in
      let same : p.0 ≡ o = ok_is p.0 o q.2 in
      let own = the_owned_lem w x o (p.1 ∙ ap (λ (y : Owned). Ok y) same) in
      later_on _ (end_on x (mark_of o) o.client (from w) start own.there (looked_up o.client x o.object own.named) (inr ne))

  pub mark_good_in : (x : ObjectId) (d : ℕ) (o : Owned) → HasOwner w x o → Calm (mark_in x d o.client (from w))
  mark_good_in x d o own =
      let a = o.client in
      let g = sits x.client a own.there in
      let m = mark_marked a.map (local_of x) o.object (Number d) own.named in
      let s : Seat = record { client = with_map (mark_after a.map (local_of x) (Number d)) a; line = w.lines x.client.place; acts = [] } in
      let r = at_client x.client a own.there s
      (mark_good (seat x.client a (from w)) g x.id o.object (with_mark o.object (Number d)) (mark_after a.map (local_of x) (Number d)) m
      (λ q. let z : ◌≡◌ {A = ℕ} 0 1 = cc in absurd (omega arith)) awaits (λ i y ne q. q)) in
      record { kept = apart_from w.lines w.engine.registry out_here k.roll k.sender r.kept; same = refl }

  -- Sending.

  module _ (x : ObjectId) (opcode : ℕ) (as' : List SendArgument) (a : Client) (there : client_at w x.client ≡ Some a) (s : Sendable) (ok : Sends t x opcode a s) where
    sits_there : Good awaits x.client n (acts_of x.client ds) (seat x.client a (from w))
    sits_there = sits x.client a there

    -- the display's row is 1, so object 1 sends no opcode 1
    row_one : x.id ≡ 1 → x.row ≡ 1
    row_one q = sym ok.lives.3 ∙ sits_there.books.state.display_row ok.lives.0 (ap (find_in a.map) (sym q) ∙ ok.lives.1)

    quiet_event : Quiet (sent_event x opcode as')
    quiet_event =
        ⊎_elim
        (λ q. ⊎_elim
        (λ p. absurd (both_ways (reserved_event x.row opcode) ok.not_delete (and_from (eqb x.row 1) (eqb opcode 1) (eq-eqb x.row 1 (row_one q)) p)))
        (λ p. quiet_opcode (sent_event x opcode as') p) (cases_Bool (eqb opcode 1)))
        (λ q. quiet_sender (sent_event x opcode as') (ne_eqb x.id 1 q)) (cases_eq x.id 1)

    -- and no event of the display ends it
    not_one : s.message.destructor ≡ true → x.id ≢ 1
    not_one d q =
        both_ways s.message.destructor
        (display_stays t.rows lawful opcode s.message (ap (λ (r : ℕ). event_in t.rows r opcode) (sym (row_one q)) ∙ ok.event)) d

    offered : Good awaits x.client n (acts_of x.client ds) (offer (sent_event x opcode as') (seat x.client a (from w)))
    offered = offer_good (sent_event x opcode as') quiet_event (seat x.client a (from w)) sits_there

    still_lives : Alive x (Some (offer (sent_event x opcode as') (seat x.client a (from w))).client)
    still_lives = (ok.lives.0, ap (λ (m : ObjectMap ObjectData). find_in m x.id) (lost_map (write_answer (sent_event x opcode as') (w.lines x.client.place)) a) ∙ ok.lives.1, ok.lives.2, ok.lives.3)

    seat_sent : Good awaits x.client n (acts_of x.client ds) (send_seat x opcode as' s (seat x.client a (from w)))
    seat_sent =
        cond_both s.message.destructor _ _ (λ (q : Seat). Good awaits x.client n (acts_of x.client ds) q)
        (λ d. end_good x s.object.«data».mark refl (offer (sent_event x opcode as') (seat x.client a (from w))) offered still_lives (inr (not_one d)))
        (λ _. offered)

    sent_good : Calm (send_run x opcode as' s a w)
    sent_good =
        let r = resumed x.client (send_seat x opcode as' s (seat x.client a (from w))) (from w) in
        let on = at_client x.client a there (send_seat x opcode as' s (seat x.client a (from w))) seat_sent in
        cond_both s.message.destructor (off_roll x r.world) r.world (λ (v : World). Calm (record { world = v; deeds = r.deeds })) (λ _. off_roll_on r x on) (λ _. on)

  pub send_good : (x : ObjectId) (opcode : ℕ) (as' : List SendArgument) (to : SendingTo) → send_check t x opcode as' w ≡ Ok to → Calm (send_act x opcode as' w to).run
  send_good x opcode as' to e =
      let p = passed (unless (sendable (sent_event x opcode as')) BadSize) _ to e in
      let q = passed (the_client w x.client) _ to p.2 in
      go q.0 (the_client_lem w x.client q.0 q.1) (is_live q.0.state) q.2
    where
      by_checks : (a : Client) → client_at w x.client ≡ Some a → (r : Result Sendable Refusal) → send_checks t.rows a x opcode as' ≡ r → sendable_to a r ≡ Ok to → Calm (send_act x opcode as' w to).run
      by_checks a there (Err f) e q = absurd (never_ok f to q)
      by_checks a there (Ok s) e q =
          subst (λ (y : SendingTo). Calm (send_act x opcode as' w y).run) (ok_is (record { client = a; what = Some s }) to q) (sent_good x opcode as' a there s (sends t x opcode as' a s e))

      go : (a : Client) → client_at w x.client ≡ Some a → (b : Bool) → cond b (sendable_to a (send_checks t.rows a x opcode as')) (Ok (record { client = a; what = None })) ≡ Ok to
          → Calm (send_act x opcode as' w to).run
      go a there true q = by_checks a there (send_checks t.rows a x opcode as') refl q
      go a there false q = subst (λ (y : SendingTo). Calm (send_act x opcode as' w y).run) (ok_is (record { client = a; what = None }) to q) still

  -- Posting and killing.

  post_seat_good : (x : ObjectId) (code : ℕ) (text : List ℕ) (r : Result (Object ObjectData) Refusal) (s : Seat) {c : ClientId} {before : List Act} → Good awaits c n before s
      → Good awaits c n before (post_seat x code text r s)
  post_seat_good x code text (Ok o) s g = fail_good code x.id x.row text s g
  post_seat_good x code text (Err e) s g = killed_good _ (flush s) (flush_good s g)

  pub post_good : (x : ObjectId) (code : ℕ) (text : List ℕ) (a : Client) → post_check x text w ≡ Ok a → Calm (post_act x code text w a).run
  post_good x code text a e =
      let p = passed (unless (postable text) BadSize) _ a e in
      let there = the_client_lem w x.client a p.2 in
      cond_both (is_live a.state) _ _ (λ (d : Done KillAnswer). Calm d.run)
      (λ _. at_client x.client a there _ (post_seat_good x code text (the_object a x) (seat x.client a (from w)) (sits x.client a there))) (λ _. still)

  pub kill_good : (c : ClientId) (r : DisconnectReason) (a : Client) → kill_check t c r w ≡ Ok a → Calm (kill_act c r w a).run
  kill_good c r a e =
      let p = passed (the_client w c) _ a e in
      let q = passed (reason_check t r) _ a p.2 in
      let there = the_client_lem w c a (p.1 ∙ ap (λ (y : Client). Ok y) (ok_is p.0 a q.2)) in
      cond_both (is_live a.state) _ _ (λ (d : Done KillAnswer). Calm d.run)
      (λ _. at_client c a there (kill r (seat c a (from w))) (killed_good r (seat c a (from w)) (sits c a there))) (λ _. still)

  -- Globals.

  pub add_good : (row version handler p : ℕ) → Calm (add_act t row version handler w p).run
  add_good row version handler p =
      along_on (λ x s. announce t x (p + 1) (new_global row version handler w) s) (λ x ne c before s g. announce_good t x (p + 1) (new_global row version handler w) s g)
      w.engine.registry.roll k.roll (from (add_world p (new_global row version handler w) w)) (registry_on (from w) _ refl still)

  pub disable_good : (i : GlobalId) (g : Global) → Calm (disable_run i w g)
  disable_good i g =
      cond_both g.disabled _ _ Calm (λ _. still)
      (λ _. along_on (retract i.name)
      (λ x ne c before s q. tell_good (global_remove x.id i.name) (quiet_sender (global_remove x.id i.name) (ne_eqb x.id 1 ne)) s q)
      w.engine.registry.roll k.roll (from (global_put i.name (Some (disabled_global g)) w)) (registry_on (from w) _ refl still))

  pub remove_good_in : (i : GlobalId) (g : Global) → Calm (in_world (global_put i.name None) (disable_run i w g))
  remove_good_in i g = registry_on (disable_run i w g) _ refl (disable_good i g)

  pub flush_good_in : (c : ClientId) (a : Client) → the_client w c ≡ Ok a → Calm (flush_act c w a).run
  flush_good_in c a e =
      let there = the_client_lem w c a e in at_client c a there (flush (seat c a (from w))) (flush_good (seat c a (from w)) (sits c a there))

  -- Tidying.

  module _ (c : ClientId) (a : Client) (there : client_at w c ≡ Some a) (dead : is_live a.state ≡ false) where
    told_good : Good awaits c n (acts_of c ds) (record { client = with_state Told a; line = w.lines c.place; acts = [] })
    told_good =
        let g = sits c a there in
        record {
          books = state_books c n (acts_of c ds) a g.books Told (λ l. absurd (false≢true l));
          turns = λ u i below. stands_less (find_in a.map i) (is_live a.state) false _ (λ l. absurd (false≢true l)) (g.turns u i below);
          waits = λ id o l. absurd (false≢true l);
          agrees = g.agrees;
        }

    -- where it gives none, there is no object
    none_next : next_handle c a 0 ≡ None → next_after a.map 0 ≡ None
    none_next e = go (next_after a.map 0) refl e
      where
        go : (v : Option ℕ) → next_after a.map 0 ≡ v → handle_if c a v ≡ None → next_after a.map 0 ≡ None
        go None f q = f
        go (Some id) f q = absurd (vacant (find_in a.map id) (live a.map 0 id (sits c a there).books.state.sized f) q)
          where
            vacant : (o : Option (Object ObjectData)) → is_some o ≡ true → handle_of c id o ≡ None → ⊥
            vacant None l r = false≢true l
            vacant (Some o) l r = not_vacant None (handle_for c id o) (sym r) refl

    nobody : next_after a.map 0 ≡ None → (x : ObjectId) → Alive x (Some a) → ⊥
    nobody e x l =
        ⊎_elim (λ q. not_vacant (find_in a.map x.id) l.0 l.1 (ap (find_in a.map) q))
        (λ q. not_vacant (find_in a.map x.id) l.0 l.1 (last a.map 0 x.id e (grind arith))) (cases_eq x.id 0)

    end_tidy : (x : ObjectId) → x.client ≡ c → Alive x (Some a) → (o : Option (Object ObjectData)) → Calm (tidy_end x o a w).run
    end_tidy x mine lives None = still
    end_tidy x mine lives (Some o) =
        let at_x : client_at w x.client ≡ Some a = ap (client_at w) mine ∙ there in
        off_roll_on _ x
        (at_client x.client a at_x (remove x o.«data».mark (seat x.client a (from w)))
        (remove_good x o.«data».mark refl (seat x.client a (from w)) (sits x.client a at_x) lives (inl dead) (inl dead)))

    tidy_act_good : (s : ClientState) → (v : Option ObjectId) → next_handle c a 0 ≡ v → Calm (tidy_act c s v a w).run
    tidy_act_good Live v e = still
    tidy_act_good (Untold r) v e = at_client c a there _ told_good
    tidy_act_good Told (Some x) e = let l = next_alive c a 0 x e in end_tidy x l.0 l.1 (find_in a.map x.id)
    tidy_act_good Told None e =
        let none = none_next e in
        let r = resumed c (flush (seat c a (from w))) (from w) in
        let on = at_client c a there (flush (seat c a (from w))) (flush_good (seat c a (from w)) (sits c a there)) in
        record { kept = vacated_kept on.kept c a (client_same w c a there a refl) (none_living a.map none) (nobody none); same = refl }

  pub tidy_good : Calm (tidy_done w).run
  tidy_good = go (lowest_killed 0 w.engine.store.clients.places) refl
    where
      go : (v : Option Found) → lowest_killed 0 w.engine.store.clients.places ≡ v → Calm (tidy_at v w).run
      go None e = still
      go (Some f) e =
          let l = lowest_killed_lem 0 w.engine.store.clients.places f e in
          let there : client_at w (found_id f) ≡ Some f.client =
          ap (named (found_id f)) (ap (at w.engine.store.clients.places) (let z : f.place ≡ f.place - 0 = omega arith in z) ∙ l.1) ∙ named_same (found_id f) f.client refl in
          tidy_act_good (found_id f) f.client there l.2 f.client.state (next_handle (found_id f) f.client 0) refl

  -- A step.

  pub step_good : (c : ClientId) (b : Buffers) (a : Client) → step_check c b w ≡ Ok a → After None n ds ps (record { answer = stepped (Ok (step_act t c b w a).value); run = (step_act t c b w a).run })
  step_good c b a e =
      let p = passed (unless (roomy b) BadSize) _ a e in
      let q = passed (unless (is_free out_here) TicketOutstanding) _ a p.2 in
      let r = passed (the_client w c) _ a q.2 in
      let u = passed (unless (is_live r.0.state) ClientKilled) _ a r.2 in
      let same : r.0 ≡ a = ok_is r.0 a u.2 in
      let there = the_client_lem w c a (r.1 ∙ ap (λ (y : Client). Ok y) same) in
      let alive : is_live a.state ≡ true = ap (λ (y : Client). is_live y.state) (sym same) ∙ required (is_live r.0.state) ClientKilled u.0 u.1 in
      made (free_is out_here (required (is_free out_here) TicketOutstanding q.0 q.1)) there alive
    where
      free_is : (o : Outstanding) → is_free o ≡ true → o ≡ out.Nothing
      free_is out.Nothing f = refl
      free_is (out.Plain o) f = absurd (false≢true f)
      free_is (out.Making m) f = absurd (false≢true f)

      made : out_here ≡ out.Nothing → client_at w c ≡ Some a → is_live a.state ≡ true → After None n ds ps (record { answer = stepped (Ok (step_act t c b w a).value); run = (step_act t c b w a).run })
      made free there alive =
          let s = step_of t c b w a in
          let g0 : Good None c n (acts_of c ds) (seat c a (from w)) = subst (λ (o : Outstanding). Good (child_of (ticket_of o)) c n (acts_of c ds) (seat c a (from w))) free (sits c a there) in
          let g = stepped_good (record { terms = t; registry = w.engine.registry; client = c }) lawful h (head_of (w.lines c.place)) (seat c a (from w)) b g0 alive in
          let on = resume_on (from w) start c a there (suc n) (omega arith) (child_of (ticket_of s.outstanding))
          (λ d y ne wait id o l f m. let none : child_of (ticket_of out_here) ≡ None = ap (λ (z : Outstanding). child_of (ticket_of z)) free in
          absurd (not_vacant (child_of (ticket_of out_here)) (handle_for d id o) (wait id o l f m) none))
          s.seat g.good in
          record {
            kept = apart_from (resumed c s.seat (from w)).world.lines _ s.outstanding (g.roll k.roll) g.sender on.kept;
            paired = g.papers ps (subst (λ (o : Outstanding). Paired ps (ticket_of o)) free pd);
          }

  -- Settling.

  module _ (o : Origin) (by : o.sender.id ≢ 1) where
    sender_ends_good : (x : Option Owned) → living w o.sender ≡ x → Calm (sender_ends o x (from w)).run
    sender_ends_good None e = still
    sender_ends_good (Some x) e =
        let own = living_owner w o.sender x e in
        later_on _ (end_on o.sender o.«data» x.client (from w) start own.there (looked_up x.client o.sender x.object own.named) (inr by))

    settle_sender_good : Calm (settle_sender o (from w)).run
    settle_sender_good =
        cond_both o.destructor _ _ (λ (d : Done (Option End)). Calm d.run) (λ _. sender_ends_good (living w o.sender) refl) (λ _. still)

  -- nothing is outstanding after it
  settled_kept : (r : Run) → Kept None (suc n) (r.deeds ++ ds) r.world → Kept None (suc n) ((settled r).deeds ++ ds) (settled r).world
  settled_kept r q = apart_from r.world.lines r.world.engine.registry out.Nothing q.roll tt q

  pub plain_good : (x : PlainTicket) → out_here ≡ out.Plain x.request
      → After (Some (plain x.request)) n ds ps (record { answer = settled_plain (Ok (plain_act x.request w).value); run = (plain_act x.request w).run })
  plain_good x e =
      let by : x.request.sender.id ≢ 1 = subst Sender e k.sender in
      let on = settle_sender_good x.request by in
      record {
        kept = settled_kept (settle_sender x.request (from w)).run (subst (λ (o : Outstanding). Kept (child_of (ticket_of o)) (suc n) ((settle_sender x.request (from w)).run.deeds ++ ds) (settle_sender x.request (from w)).run.world) e on.kept);
        paired = comes_back _ (subst (λ (o : Outstanding). Paired ps (ticket_of o)) e pd);
      }

  -- the child, if it lives, gets its data
  module _ (x : ObjectId) (d : ℕ) (r : Run) (on : Calm r) (waiting : awaits ≡ Some x) where
    child_on : On (Some x) (suc n) out_here ds r
    child_on = subst (λ (v : Option ObjectId). On v (suc n) out_here ds r) waiting on

    child_good : (v : Option Owned) → living r.world x ≡ v → Kept None (suc n) ((child_set x d v r).run.deeds ++ ds) (child_set x d v r).run.world
    child_good None e =
        let q = child_on.kept in
        record {
          few = q.few;
          clients_old = q.clients_old;
          untouched = q.untouched;
          counted = q.counted;
          books = q.books;
          turns = q.turns;
          waits = λ c a there. waits_nobody x r.world e c a there (q.waits c a there);
          roll = q.roll;
          sender = q.sender;
        }
    child_good (Some o) e =
        let own = living_owner r.world x o e in
        let a = o.client in
        let g = seat_on r child_on x.client a own.there in
        let m = mark_marked a.map (local_of x) o.object (Number d) own.named in
        let s : Seat = record { client = with_map (mark_after a.map (local_of x) (Number d)) a; line = r.world.lines x.client.place; acts = [] } in
        let q = resume_on r child_on x.client a own.there (suc n) (omega arith) None
        (λ c y ne wait id z l f w'. absurd (ne (ap (λ (i : ObjectId). i.client) (sym (some_is x (handle_for c id z) (wait id z l f w'))))))
        s
        (mark_good (seat x.client a r) g x.id o.object (with_mark o.object (Number d)) (mark_after a.map (local_of x) (Number d)) m
        (λ p. let z : ◌≡◌ {A = ℕ} 0 1 = cc in absurd (omega arith)) None
        (λ i y ne p. absurd (ne (ap (λ (j : ObjectId). j.id) (sym (some_is x (handle_for x.client i y) p)))))) in
        apart_from r.world.lines r.world.engine.registry r.world.engine.outstanding child_on.kept.roll child_on.kept.sender q.kept

  pub making_good : (x : MakingTicket) (d : ℕ) → out_here ≡ out.Making x.request
      → After (Some (making x.request.origin x.request.child x.request.bound)) n ds ps (record { answer = settled_making (Ok (making_act x.request.origin x.request.child d w).value); run = (making_act x.request.origin x.request.child d w).run })
  making_good x d e =
      let by : x.request.origin.sender.id ≢ 1 = subst Sender e k.sender in
      let r = (settle_sender x.request.origin (from w)).run in
      record {
        kept = settled_kept (settle_child x.request.child d r).run
            (child_good x.request.child d r (settle_sender_good x.request.origin by) (ap (λ (o : Outstanding). child_of (ticket_of o)) e) (living r.world x.request.child) refl);
        paired = comes_back _ (subst (λ (o : Outstanding). Paired ps (ticket_of o)) e pd);
      }
