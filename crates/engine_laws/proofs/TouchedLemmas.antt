-- Which lines a call touches.
use Rattle.std.proofs.Common.{◌≡◌, ℕ, ◌+◌, true, false, cond, eqb, ltb, set, List, [], ◌∷◌, Some, None, Ok, Err, Option, Result, sym, refl, ap, ◌∙◌, subst, inl, inr, ⊎_elim}
use Rattle.std.proofs.lemmas.Bool.{cond_both, cond-true, cond-false, cases_Bool, ltb-true, eqb-true, eq-eqb, false≢true}
use Rattle.std.proofs.lemmas.List.{set-get_or}
use Rattle.places.specs.Places.{at}
use Rattle.places.proofs.Laws.{at_set_other}
use Rattle.map.specs.declared.DataMark.{DataMark}
use Rattle.map.specs.declared.DataMark.TheVariants.{Number}
use Rattle.map.specs.declared.Object.{Object}
use Rattle.map.specs.declared.ObjectData.{ObjectData}
use Rattle.map.specs.Map.{limit, find_in}
use Rattle.protocol.specs.declared.refusal.Refusal.{Refusal}
use Rattle.protocol.specs.declared.refusal.Refusal.TheVariants.{BadSize}
use Rattle.wire.specs.Line.{Line}
use Rattle.backend.specs.declared.ids.ClientId.{ClientId}
use Rattle.backend.specs.declared.ids.ObjectId.{ObjectId}
use Rattle.backend.specs.declared.ids.GlobalId.{GlobalId}
use Rattle.backend.specs.declared.client.Client.{Client}
use Rattle.backend.specs.declared.client.ClientState.{ClientState}
use Rattle.backend.specs.declared.client.ClientState.TheVariants.{Live, Untold, Told}
use Rattle.backend.specs.declared.client.End.{End}
use Rattle.backend.specs.declared.registry.Global.{Global}
use Rattle.backend.specs.declared.ticket.Origin.{Origin}
use Rattle.backend.specs.declared.ticket.Outstanding.TheVariants as out
use Rattle.backend.specs.declared.answers.KillAnswer.{KillAnswer}
use Rattle.backend.specs.declared.answers.TidyAnswer.TheVariants.{Vacated}
use Rattle.backend.specs.declared.answers.DisableAnswer.TheVariants.{Disabled}
use Rattle.backend.specs.declared.answers.DisableAnswer.{DisableAnswer}
use Rattle.backend.specs.Tickets.{same_ticket}
use Rattle.backend.specs.Texts.{name_in}
use Rattle.backend.specs.Events.{delete_id, global_event, global_remove}
use Rattle.message.specs.Events.{EventModel, sendable}
use Rattle.backend.specs.World.{Terms, World, client_at, is_live, named, with_state}
use Rattle.backend.specs.Acts.{Seat, Run, from, seat, resumed, offer, tell, end, kill as kill_seat, remove as remove_seat}
use Rattle.backend.specs.Registries.{announce, retract, visible, visit, along_roll, global_id}
use Rattle.backend.specs.Checks.{passing, unless, the_client, the_owned, the_global, Owned}
use Rattle.backend.specs.Sending.{SendArgument, sent_event, Sendable, send_checks}
use Rattle.backend.specs.Calls.{Done, admit_check, admit_act, new_client_id, step_check, step_act, living, end_in, sender_ends, settle_sender, child_set, create_check, create_act, create_seat, destroy_check, destroy_act, mark_of, SendingTo, sendable_to, send_check, send_what, send_act, set_act, next_handle, postable, post_check, post_act, kill_check, kill_act, add_check, new_global, add_world, add_act, disabled_global, global_put, disable_run, disable_act, remove_act, flush_act, Found, found_id, lowest_killed, tidy_end, tidy_act, tidy_at}
use Rattle.backend.specs.Perform.{Call, admit, step, settle_plain, settle_making, create, destroy, send, look, set as set_call, find, next, post, kill, add, disable, remove, flush, tidy, Answer, admitted, stepped, created, destroyed, sent, looked, changed, found, found_next, posted, killed, added, disabled, removed, flushed, tidied, Outcome, checked, perform}
use Rattle.accounts.proofs.Books.{not_vacant}
use Rattle.accounts.proofs.Checked.{ok_is, passed, the_client_lem}
use Rattle.accounts.proofs.Kept.{named_is}
use Rattle.engine_laws.proofs.StepLemmas.{checks}
use Rattle.engine_laws.specs.Touched.{OnRoll, Listener, Shown, Reached, Deleted, Ends, Touches, CallsTouchTheirLines}

-- Done at one client.

not_here : (p q : ℕ) → (p ≡ q → ⊥) → eqb p q ≡ false
not_here p q ne = ⊎_elim (λ t. absurd (ne (eqb-true p q t))) (λ f. f) (cases_Bool (eqb p q))

-- the line of another place
away : (p q : ℕ) (l m : Line) → (p ≡ q → ⊥) → cond (eqb p q) l m ≡ m
away p q l m ne = cond-false (eqb p q) l m (not_here p q ne)

-- whichever place, where the seat's line is as it was
still : (p : ℕ) (c : ClientId) (s : Seat) (r : Run) → s.line ≡ r.world.lines c.place → (resumed c s r).world.lines p ≡ r.world.lines p
still p c s r e =
    ⊎_elim (λ t. cond-true (eqb p c.place) s.line (r.world.lines p) t ∙ (e ∙ ap r.world.lines (sym (eqb-true p c.place t)))) (λ f. cond-false (eqb p c.place) s.line (r.world.lines p) f)
    (cases_Bool (eqb p c.place))

-- Along the roll.

module _ (w : World) (p : ℕ) where
  -- so far the place is as it was
  record Same (r : Run) : Type 0 where
    line : r.world.lines p ≡ w.lines p
    client : at r.world.engine.store.clients.places p ≡ at w.engine.store.clients.places p

  visit_same : (c : ClientId) (f : Seat → Seat) → (p ≡ c.place → (k : Client) → client_at w c ≡ Some k → (r : Run) → f (seat c k r) ≡ seat c k r)
      → (r : Run) → Same r → (v : Option Client) → client_at r.world c ≡ v → Same (visit c f v r)
  visit_same c f idle r g None e = g
  visit_same c f idle r g (Some k) e = ⊎_elim here there (cases_Bool (eqb p c.place))
    where
      places : List (Option Client)
      places = r.world.engine.store.clients.places

      here : eqb p c.place ≡ true → Same (visit c f (Some k) r)
      here t =
          let q : p ≡ c.place = eqb-true p c.place t in
          let then : client_at w c ≡ Some k = ap (named c) (ap (at w.engine.store.clients.places) (sym q) ∙ (sym g.client ∙ ap (at places) q)) ∙ e in
          let held : at places c.place ≡ Some k = (named_is c (at places c.place) k e).0 in
          let unmoved : set places c.place (Some k) ≡ places = ap (set places c.place) (sym held) ∙ set-get_or places c.place None in
          subst (λ (s : Seat). Same (resumed c s r)) (sym (idle q k then r)) (record {
            line = still p c (seat c k r) r refl ∙ g.line;
            client = ap (λ (xs : List (Option Client)). at xs p) unmoved ∙ g.client;
          })

      there : eqb p c.place ≡ false → Same (visit c f (Some k) r)
      there n = record {
        line = cond-false (eqb p c.place) _ (r.world.lines p) n ∙ g.line;
        client = at_set_other places c.place p (Some (f (seat c k r)).client) (λ q. false≢true (sym n ∙ eq-eqb p c.place q)) ∙ g.client;
      }

  along_same : (f : ObjectId → Seat → Seat) (roll : List (Option ObjectId)) → ((x : ObjectId) → OnRoll x roll → p ≡ x.client.place → (k : Client) → client_at w x.client ≡ Some k → (r : Run) → f x (seat x.client k r) ≡ seat x.client k r)
      → (r : Run) → Same r → Same (along_roll f roll r)
  along_same f [] idle r g = g
  along_same f (None ∷ roll) idle r g = along_same f roll idle r g
  along_same f (Some x ∷ roll) idle r g =
      along_same f roll (λ y on. idle y (inr on)) (visit x.client (f x) (client_at r.world x.client) r)
      (visit_same x.client (f x) (idle x (inl refl)) r g (client_at r.world x.client) refl)

-- a client that is killed is told nothing
tell_idle : (e : EventModel) (s : Seat) → (is_live s.client.state ≡ true → ⊥) → tell e s ≡ s
tell_idle e s dead = cond_both (is_live s.client.state) _ _ (λ (q : Seat). q ≡ s) (λ l. absurd (dead l)) (λ d. refl)

module _ (t : Terms) (w : World) (p : ℕ) where
  announce_idle : (x : ObjectId) (name : ℕ) (g : Global) (k : Client) (r : Run) → (visible t x.client k name g ≡ true → is_live k.state ≡ true → ⊥)
      → announce t x name g (seat x.client k r) ≡ seat x.client k r
  announce_idle x name g k r deaf =
      cond_both (visible t x.client k name g) _ _ (λ (q : Seat). q ≡ seat x.client k r)
      (λ v. tell_idle (global_event x.id name (name_in t.rows g.row) g.version) (seat x.client k r) (deaf v)) (λ h. refl)

  -- what is not refused leaves the line
  checked_same : {P A : Type 0} (says : Result A Refusal → Answer) (r : Result P Refusal) (act : P → Done A) → ((x : P) → (act x).run.world.lines p ≡ w.lines p) → (checked says r w act).run.world.lines p ≡ w.lines p
  checked_same says (Err e) act fine = refl
  checked_same says (Ok x) act fine = fine x

  -- the same, with what its check found
  found_same : {P A : Type 0} (says : Result A Refusal → Answer) (r : Result P Refusal) (act : P → Done A) → ((x : P) → r ≡ Ok x → (act x).run.world.lines p ≡ w.lines p)
      → (checked says r w act).run.world.lines p ≡ w.lines p
  found_same says (Err e) act fine = refl
  found_same says (Ok x) act fine = fine x refl

  told_same : {P A : Type 0} (says : Result A Refusal → Answer) (r : Result P Refusal) (f : P → A) → (checked says r w (λ (x : P). record { value = f x; run = from w })).run.world.lines p ≡ w.lines p
  told_same says (Err e) f = refl
  told_same says (Ok x) f = refl

  admit_same : (d : ℕ) (r : Result ℕ Refusal) → ((c : ClientId) × ((checked admitted r w (admit_act d w)).answer ≡ admitted (Ok c)) × (p ≡ c.place) → ⊥) → (checked admitted r w (admit_act d w)).run.world.lines p ≡ w.lines p
  admit_same d (Err e) clear = refl
  admit_same d (Ok q) clear = away p q _ _ (λ e. clear (new_client_id q w, refl, e))

  end_same : (x : ObjectId) (mark : DataMark) (k : Client) → (Deleted x p → ⊥) → (end_in x mark k (from w)).world.lines p ≡ w.lines p
  end_same x mark k clear = ⊎_elim low high (cases_Bool (ltb x.id limit))
    where
      s : Seat
      s = seat x.client k (from w)

      low : ltb x.id limit ≡ true → (end_in x mark k (from w)).world.lines p ≡ w.lines p
      low e = away p x.client.place _ _ (λ here. clear (ltb-true x.id limit e, here))

      high : ltb x.id limit ≡ false → (end_in x mark k (from w)).world.lines p ≡ w.lines p
      high e = still p x.client (end x mark s) (from w) (ap (λ (q : Seat). q.line) (cond-false (ltb x.id limit) (offer (delete_id x.id) s) s e))

  sender_same : (o : Origin) (v : Option Owned) → (Deleted o.sender p → ⊥) → (sender_ends o v (from w)).run.world.lines p ≡ w.lines p
  sender_same o None clear = refl
  sender_same o (Some x) clear = end_same o.sender o.«data» x.client clear

  settle_same : (o : Origin) → (Ends o p → ⊥) → (settle_sender o (from w)).run.world.lines p ≡ w.lines p
  settle_same o clear = cond_both o.destructor _ _ (λ (d : Done (Option End)). d.run.world.lines p ≡ w.lines p) (λ b. sender_same o (living w o.sender) (λ e. clear (b, e))) (λ b. refl)

  child_same : (x : ObjectId) (d : ℕ) (v : Option Owned) (r : Run) → r.world.lines p ≡ w.lines p → (child_set x d v r).run.world.lines p ≡ w.lines p
  child_same x d None r e = e
  child_same x d (Some o) r e = e

  -- an event goes to a client that is not killed
  sends_live : (x : ObjectId) (opcode : ℕ) (as' : List SendArgument) (v : SendingTo) (q : Sendable) → send_check t x opcode as' w ≡ Ok v → v.what ≡ Some q → (k : Client) × (client_at w x.client ≡ Some k) × (is_live k.state ≡ true)
  sends_live x opcode as' v q e some =
      let by_client = λ (k : Client). cond (is_live k.state) (sendable_to k (send_checks t.rows k x opcode as')) (Ok (record { client = k; what = None })) in
      let f = passed (unless (sendable (sent_event x opcode as')) BadSize) (λ (u : Unit {0}). passing (the_client w x.client) by_client) v e in
      let g = passed (the_client w x.client) by_client v f.2 in
      (g.0, the_client_lem w x.client g.0 g.1, ⊎_elim (λ l. l) (λ d. absurd (unsent g.0 (sym (cond-false (is_live g.0.state) _ _ d) ∙ g.2))) (cases_Bool (is_live g.0.state)))
    where
      unsent : (k : Client) → ◌≡◌ {A = Result SendingTo Refusal} (Ok (record { client = k; what = None })) (Ok v) → ⊥
      unsent k d = not_vacant None q (ap (λ (y : SendingTo). y.what) (ok_is (record { client = k; what = None }) v d) ∙ some) refl

  send_same : (x : ObjectId) (opcode : ℕ) (as' : List SendArgument) (k : Client) (v : Option Sendable) → ((q : Sendable) → v ≡ Some q → p ≡ x.client.place → ⊥) → (send_what x opcode as' k w v).run.world.lines p ≡ w.lines p
  send_same x opcode as' k None clear = refl
  send_same x opcode as' k (Some s) clear =
      cond_both s.message.destructor _ _ (λ (v : World). v.lines p ≡ w.lines p) (λ b. away p x.client.place _ _ (clear s refl)) (λ b. away p x.client.place _ _ (clear s refl))

  post_same : (x : ObjectId) (code : ℕ) (text : List ℕ) (k : Client) → client_at w x.client ≡ Some k → (Reached w x.client p → ⊥) → (post_act x code text w k).run.world.lines p ≡ w.lines p
  post_same x code text k there clear =
      cond_both (is_live k.state) _ _ (λ (d : Done KillAnswer). d.run.world.lines p ≡ w.lines p) (λ l. away p x.client.place _ _ (λ e. clear (k, there, l, e))) (λ b. refl)

  posts_to : (x : ObjectId) (text : List ℕ) (k : Client) → post_check x text w ≡ Ok k → client_at w x.client ≡ Some k
  posts_to x text k e = the_client_lem w x.client k (passed (unless (postable text) BadSize) (λ (u : Unit {0}). the_client w x.client) k e).2

  add_same : (row version handler : ℕ) (r : Result ℕ Refusal)
      → ((i : GlobalId) × ((checked added r w (add_act t row version handler w)).answer ≡ added (Ok i)) × ((l : Listener w p) × Shown t w l i handler) → ⊥)
      → (checked added r w (add_act t row version handler w)).run.world.lines p ≡ w.lines p
  add_same row version handler (Err e) clear = refl
  add_same row version handler (Ok q) clear =
      (along_same w p (λ x s. announce t x (q + 1) g s) w.engine.registry.roll
      (λ x on e k there r. announce_idle x (q + 1) g k r
      (λ shows l. clear (global_id (q + 1) g, refl, (record { registry = x; client = k; on_roll = on; there = there; not_killed = l; here = e }, shows))))
      (from (add_world q g w)) (record { line = refl; client = refl })).line
    where
      g : Global
      g = new_global row version handler w

  disable_same : (i : GlobalId) (g : Global) → ((disable_act i w g).value ≡ Disabled → Listener w p → ⊥) → (disable_run i w g).world.lines p ≡ w.lines p
  disable_same i g clear =
      cond_both g.disabled _ _ (λ (r : Run). r.world.lines p ≡ w.lines p) (λ b. refl)
      (λ b.
      (along_same w p (retract i.name) w.engine.registry.roll
      (λ x on e k there r. tell_idle (global_remove x.id i.name) (seat x.client k r)
      (λ l. clear (cond-false g.disabled _ _ b) (record { registry = x; client = k; on_roll = on; there = there; not_killed = l; here = e })))
      (from (global_put i.name (Some (disabled_global g)) w)) (record { line = refl; client = refl })).line)

  disabled_same : (i : GlobalId) (r : Result Global Refusal) → (((checked disabled r w (disable_act i w)).answer ≡ disabled (Ok Disabled)) × Listener w p → ⊥)
      → (checked disabled r w (disable_act i w)).run.world.lines p ≡ w.lines p
  disabled_same i (Err e) clear = refl
  disabled_same i (Ok g) clear = disable_same i g (λ e l. clear (ap (λ (a : DisableAnswer). disabled (Ok a)) e, l))

  removed_same : (i : GlobalId) (r : Result Global Refusal) → (((checked disabled r w (disable_act i w)).answer ≡ disabled (Ok Disabled)) × Listener w p → ⊥)
      → (checked removed r w (remove_act i w)).run.world.lines p ≡ w.lines p
  removed_same i (Err e) clear = refl
  removed_same i (Ok g) clear = disable_same i g (λ e l. clear (ap (λ (a : DisableAnswer). disabled (Ok a)) e, l))

  tidy_end_same : (x : ObjectId) (o : Option (Object ObjectData)) (k : Client) → (tidy_end x o k w).run.world.lines p ≡ w.lines p
  tidy_end_same x None k = refl
  tidy_end_same x (Some o) k = still p x.client (remove_seat x o.«data».mark (seat x.client k (from w))) (from w) refl

  tidy_act_same : (c : ClientId) (s : ClientState) (x : Option ObjectId) (k : Client) → ((d : ClientId) × (tidied (tidy_act c s x k w).value ≡ tidied (Vacated d)) × (p ≡ d.place) → ⊥) → (tidy_act c s x k w).run.world.lines p ≡ w.lines p
  tidy_act_same c Live x k clear = refl
  tidy_act_same c (Untold r) x k clear = still p c (record { client = with_state Told k; line = w.lines c.place; acts = [] }) (from w) refl
  tidy_act_same c Told (Some x) k clear = tidy_end_same x (find_in k.map x.id) k
  tidy_act_same c Told None k clear = away p c.place _ _ (λ e. clear (c, refl, e))

  tidy_same : (v : Option Found) → ((d : ClientId) × (tidied (tidy_at v w).value ≡ tidied (Vacated d)) × (p ≡ d.place) → ⊥) → (tidy_at v w).run.world.lines p ≡ w.lines p
  tidy_same None clear = refl
  tidy_same (Some f) clear = tidy_act_same (found_id f) f.client.state (next_handle (found_id f) f.client 0) f.client clear

  all_same : (c : Call) → (Touches t c w p → ⊥) → (perform t c w).run.world.lines p ≡ w.lines p
  all_same (admit d) clear = admit_same d (admit_check w) clear
  all_same (step c b) clear = found_same stepped (step_check c b w) (step_act t c b w)
      (λ k e. let g = checks t c b w k e in away p c.place _ _ (λ here. clear (k, g.0, g.1.0, here)))
  all_same (settle_plain x) clear =
      cond_both (same_ticket w.engine.outstanding (out.Plain x.request)) _ _ (λ (o : Outcome). o.run.world.lines p ≡ w.lines p) (λ b. settle_same x.request clear) (λ b. refl)
  all_same (settle_making x d) clear =
      cond_both (same_ticket w.engine.outstanding (out.Making x.request)) _ _ (λ (o : Outcome). o.run.world.lines p ≡ w.lines p)
      (λ b. let s = settle_sender x.request.origin (from w) in child_same x.request.child d (living s.run.world x.request.child) s.run (settle_same x.request.origin clear)) (λ b. refl)
  all_same (create c row version d) clear = checked_same created (create_check t c row w) (create_act c row version d w)
      (λ x. still p c (create_seat c x.id row version (Number d) (seat c x.client (from w))) (from w) refl)
  all_same (destroy x) clear = checked_same destroyed (destroy_check x w) (destroy_act x w) (λ o. end_same x (mark_of o) o.client clear)
  all_same (send x opcode as') clear = found_same sent (send_check t x opcode as' w) (send_act x opcode as' w)
      (λ s e. send_same x opcode as' s.client s.what (λ q some here. let l = sends_live x opcode as' s q e some in clear (l.0, l.1, l.2, here)))
  all_same (look x) clear = told_same looked (the_owned w x) _
  all_same (set_call x d) clear = checked_same changed (the_owned w x) (set_act x d w) (λ o. refl)
  all_same (find c id) clear = told_same found (the_client w c) _
  all_same (next c id) clear = told_same found_next (the_client w c) _
  all_same (post x code text) clear =
      found_same posted (post_check x text w) (post_act x code text w) (λ k e. post_same x code text k (posts_to x text k e) clear)
  all_same (kill c r) clear = checked_same killed (kill_check t c r w) (kill_act c r w)
      (λ k. cond_both (is_live k.state) _ _ (λ (d : Done KillAnswer). d.run.world.lines p ≡ w.lines p) (λ b. still p c (kill_seat r (seat c k (from w))) (from w) refl) (λ b. refl))
  all_same (add row version handler) clear = add_same row version handler (add_check t row version w) clear
  all_same (disable i) clear = disabled_same i (the_global w i) clear
  all_same (remove i) clear = removed_same i (the_global w i) clear
  all_same (flush c) clear = checked_same flushed (the_client w c) (flush_act c w) (λ k. away p c.place _ _ clear)
  all_same tidy clear = tidy_same (lowest_killed 0 w.engine.store.clients.places) clear

pub calls_touch_their_lines : CallsTouchTheirLines
calls_touch_their_lines t c w p clear = all_same t w p c clear
