-- A killed client stays killed while it is there.
use Rattle.std.proofs.Common.{◌≡◌, ℕ, ◌+◌, Bool, true, false, cond, not, ◌≢◌, eqb, ltb, List, [], ◌∷◌, Some, None, Ok, Err, Option, Result, sym, refl, ap, ◌∙◌, subst, ⊎_elim, arith}
use Rattle.std.proofs.lemmas.Bool.{cond_both, both_ways}
use Rattle.places.specs.Places.{at}
use Rattle.map.specs.declared.DataMark.{DataMark}
use Rattle.map.specs.declared.DataMark.TheVariants.{Number}
use Rattle.map.specs.declared.Object.{Object}
use Rattle.map.specs.declared.ObjectData.{ObjectData}
use Rattle.map.specs.Map.{limit, find_in, new_answer}
use Rattle.protocol.specs.declared.refusal.Refusal.{Refusal}
use Rattle.protocol.specs.declared.refusal.Refusal.TheVariants.{BadSize, TicketOutstanding, ClientKilled, Reserved, NoVacancy}
use Rattle.message.specs.Events.{sendable}
use Rattle.wire.specs.Line.{write_answer}
use Rattle.wire.specs.declared.answers.WriteError.{WriteError}
use Rattle.backend.specs.declared.ids.ClientId.{ClientId}
use Rattle.backend.specs.declared.ids.ObjectId.{ObjectId}
use Rattle.backend.specs.declared.ids.GlobalId.{GlobalId}
use Rattle.backend.specs.declared.client.Client.{Client}
use Rattle.backend.specs.declared.client.ClientState.{ClientState}
use Rattle.backend.specs.declared.client.ClientState.TheVariants.{Live, Untold, Told}
use Rattle.backend.specs.declared.client.DisconnectReason.{DisconnectReason}
use Rattle.backend.specs.declared.client.End.{End}
use Rattle.backend.specs.declared.registry.Global.{Global}
use Rattle.backend.specs.declared.ticket.Origin.{Origin}
use Rattle.backend.specs.declared.ticket.Outstanding.TheVariants as out
use Rattle.backend.specs.declared.answers.KillAnswer.{KillAnswer}
use Rattle.backend.specs.Tickets.{same_ticket}
use Rattle.backend.specs.Events.{delete_id, global_remove}
use Rattle.backend.specs.World.{Terms, World, is_live, named, client_at, with_state}
use Rattle.backend.specs.Acts.{Seat, Run, from, seat, kill, lost, offer, remove, end}
use Rattle.backend.specs.Registries.{announce, retract, visit, along_roll}
use Rattle.backend.specs.Requests.{Buffers}
use Rattle.backend.specs.Checks.{unless, present, the_client, the_owned, the_row, the_global, Owned}
use Rattle.backend.specs.Sending.{SendArgument, sent_event, Sendable, send_checks}
use Rattle.backend.specs.Calls.{Done, admit_check, admit_act, roomy, is_free, step_check, step_of, step_act, living, sender_ends, settle_sender, child_set, end_in, making_act, Creating, create_check, create_act, create_seat, destroy_check, destroy_act, mark_of, SendingTo, sendable_to, send_check, send_seat, send_run, send_act, set_act, next_handle, postable, post_check, post_act, kill_check, kill_act, reason_check, add_check, new_global, add_world, add_act, disabled_global, global_put, disable_run, disable_act, remove_act, flush_act, Found, found_id, lowest_killed, tidy_end, tidy_act, tidy_at}
use Rattle.backend.specs.Perform.{Call, admit, step, settle_plain, settle_making, create, destroy, send, look, set, find, next, post, kill as kill_call, add, disable, remove as remove_call, flush as flush_call, tidy, Answer, admitted, stepped, created, destroyed, sent, looked, changed, found, found_next, posted, killed, added, disabled, removed, flushed, checked, Outcome, perform}
use Rattle.accounts.specs.Accounts.{Killed}
use Rattle.accounts.proofs.Books.{some_is, not_vacant}
use Rattle.accounts.proofs.Kept.{cases_client, named_same, client_same}
use Rattle.accounts.proofs.Checked.{passed, required, presented, ok_is, never_ok, the_client_lem, the_owned_lem}
use Rattle.engine_laws.specs.Killed.{KilledStayKilled}
use Rattle.places.specs.Places.{first_vacant}
use Rattle.places.specs.Laws.{Counted}
use Rattle.places.proofs.Laws.{at_set_other}
use Rattle.places.proofs.Entries.{new_vacant}
use Rattle.map.specs.Named.{mark_after}
use Rattle.backend.specs.Ids.{local_of}
use Rattle.backend.specs.World.{with_map, with_place}
use Rattle.backend.specs.Calls.{mark_in, plain_act, post_seat}
use Rattle.backend.specs.Checks.{the_object}
use Rattle.accounts.proofs.Kept.{client_gone, gone_other}
use Rattle.accounts.proofs.Along.{holds}
use Rattle.engine_laws.proofs.KilledLines.{apart, one_client, visit_killed, lost_dead, found_there, next_own}
use Rattle.engine_laws.proofs.Silence.{tell_same, tell_silent, announce_same, announce_silent}
use Rattle.accounts.proofs.Sought.{living_owner}

module _ (c : ClientId) where
  abbrev Stays : World → Type 0
  Stays v = (k : Client) → client_at v c ≡ Some k → is_live k.state ≡ false

  stays : (v : World) → Killed v c → Stays v
  stays v (q, there, dead) k e = subst (λ (x : Client). is_live x.state ≡ false) (some_is q k (sym there ∙ e)) dead

  -- what stands at the place of one client: of the killed one, another that is killed and has its serial
  placed : (v : World) → Killed v c → (d : ClientId) (k : Client) → client_at v d ≡ Some k → (q : Client) → (is_live k.state ≡ false → (q.serial ≡ k.serial) × (is_live q.state ≡ false))
      → Killed (with_place d.place (Some q) v) c
  placed v dead d k there q same =
      ⊎_elim
      (λ e. let s = same (one_client v c v d k there dead e) in (q, ap (client_at (with_place d.place (Some q) v)) e ∙ client_same v d k there q s.0, s.1))
      (λ ne. (dead.0, ap (named c) (at_set_other v.engine.store.clients.places d.place c.place (Some q) (apart v c v d k dead.0 there dead.1 ne)) ∙ dead.1, dead.2))
      (cases_client c d)

  -- and where the client is live, whatever stands there
  placed_live : (v : World) → Killed v c → (d : ClientId) (k : Client) → client_at v d ≡ Some k → is_live k.state ≡ true → (q : Client) → Killed (with_place d.place (Some q) v) c
  placed_live v dead d k there l q = placed v dead d k there q (λ f. absurd (both_ways (is_live k.state) f l))

  along_killed : (f : ObjectId → Seat → Seat) → ((x : ObjectId) (s : Seat) → (f x s).client.serial ≡ s.client.serial) → ((x : ObjectId) (s : Seat) → is_live s.client.state ≡ false → f x s ≡ s)
      → (xs : List (Option ObjectId)) (r : Run) → Killed r.world c → Killed (along_roll f xs r).world c
  along_killed f same silent [] r dead = dead
  along_killed f same silent (None ∷ xs) r dead = along_killed f same silent xs r dead
  along_killed f same silent (Some x ∷ xs) r dead =
      along_killed f same silent xs (visit x.client (f x) (client_at r.world x.client) r) (visit_killed r.world c f same silent x (client_at r.world x.client) r refl dead)

-- an end keeps the serial, and a killed client killed
lost_same : (r : Result (Unit {0}) WriteError) (k : Client) → (lost r k).serial ≡ k.serial
lost_same (Ok u) k = refl
lost_same (Err e) k = refl

end_keeps : (x : ObjectId) (mark : DataMark) (s : Seat) → is_live s.client.state ≡ false → ((end x mark s).client.serial ≡ s.client.serial) × (is_live (end x mark s).client.state ≡ false)
end_keeps x mark s d =
    cond_both (ltb x.id limit) (offer (delete_id x.id) s) s (λ (q : Seat). ((remove x mark q).client.serial ≡ s.client.serial) × (is_live (remove x mark q).client.state ≡ false))
    (λ _. (lost_same (write_answer (delete_id x.id) s.line) s.client, lost_dead (write_answer (delete_id x.id) s.line) s.client d)) (λ _. (refl, d))

module _ (t : Terms) (w : World) (counted : Counted w.engine.store.clients.places w.engine.store.clients.len) (c : ClientId) (dead : Killed w c) where
  abbrev K : Run → Type 0
  K r = Killed r.world c

  checked_killed : {P A : Type 0} (says : Result A Refusal → Answer) (r : Result P Refusal) (act : P → Done A) → ((p : P) → r ≡ Ok p → K (act p).run) → K (checked says r w act).run
  checked_killed says (Err e) act fine = dead
  checked_killed says (Ok p) act fine = fine p refl

  -- a newcomer takes a place where nobody is
  admit_killed : (d p : ℕ) → admit_check w ≡ Ok p → K (admit_act d w p).run
  admit_killed d p e =
      let v = presented (first_vacant w.engine.store.clients.places w.engine.store.clients.len) NoVacancy p e in
      let none : at w.engine.store.clients.places p ≡ None = new_vacant w.engine.store.clients.places w.engine.store.clients.len p counted v in
      let ne : c.place ≢ p = λ q. not_vacant (client_at w c) dead.0 dead.1 (ap (λ (i : ℕ). named c (at w.engine.store.clients.places i)) q ∙ ap (named c) none) in
      (dead.0, ap (named c) (at_set_other w.engine.store.clients.places p c.place _ ne) ∙ dead.1, dead.2)

  step_killed : (d : ClientId) (b : Buffers) (k : Client) → step_check d b w ≡ Ok k → K (step_act t d b w k).run
  step_killed d b k q =
      let roomy_first = passed (unless (roomy b) BadSize) _ k q in
      let free = passed (unless (is_free w.engine.outstanding) TicketOutstanding) _ k roomy_first.2 in
      let there = passed (the_client w d) _ k free.2 in
      let living = passed (unless (is_live there.0.state) ClientKilled) _ k there.2 in
      let same = ok_is there.0 k living.2 in
      placed_live c w dead d k (the_client_lem w d there.0 there.1 ∙ ap (λ (a : Client). Some a) same)
      (ap (λ (a : Client). is_live a.state) (sym same) ∙ required (is_live there.0.state) ClientKilled living.0 living.1) (step_of t d b w k).seat.client

  end_killed : (x : ObjectId) (mark : DataMark) (k : Client) → client_at w x.client ≡ Some k → K (end_in x mark k (from w))
  end_killed x mark k there = placed c w dead x.client k there (end x mark (seat x.client k (from w))).client (λ d. end_keeps x mark (seat x.client k (from w)) d)

  sender_killed : (o : Origin) (v : Option Owned) → living w o.sender ≡ v → K (sender_ends o v (from w)).run
  sender_killed o None e = dead
  sender_killed o (Some x) e = end_killed o.sender o.«data» x.client (living_owner w o.sender x e).there

  settle_sender_killed : (o : Origin) → K (settle_sender o (from w)).run
  settle_sender_killed o = cond_both o.destructor _ _ (λ (d : Done (Option End)). K d.run) (λ _. sender_killed o (living w o.sender) refl) (λ _. dead)

  mark_killed : (x : ObjectId) (d : ℕ) (o : Owned) (r : Run) → K r → client_at r.world x.client ≡ Some o.client → K (mark_in x d o.client r)
  mark_killed x d o r k there = placed c r.world k x.client o.client there (with_map (mark_after o.client.map (local_of x) (Number d)) o.client) (λ q. (refl, q))

  child_killed : (x : ObjectId) (d : ℕ) (v : Option Owned) (r : Run) → living r.world x ≡ v → K r → K (child_set x d v r).run
  child_killed x d None r e k = k
  child_killed x d (Some o) r e k = mark_killed x d o r k (living_owner r.world x o e).there

  create_killed : (d : ClientId) (row version n : ℕ) (x : Creating) → create_check t d row w ≡ Ok x → K (create_act d row version n w x).run
  create_killed d row version n x e =
      let p = passed (the_client w d) _ x e in
      let q = passed (the_row t.rows row) _ x p.2 in
      let r = passed (present (new_answer p.0.map) NoVacancy) _ x q.2 in
      let same : record { client = p.0; id = r.0 } ≡ x = ok_is (record { client = p.0; id = r.0 }) x r.2 in
      placed c w dead d x.client (the_client_lem w d p.0 p.1 ∙ ap (λ (y : Creating). Some y.client) same)
      (create_seat d x.id row version (Number n) (seat d x.client (from w))).client (λ k. (refl, k))

  destroy_killed : (x : ObjectId) (o : Owned) → destroy_check x w ≡ Ok o → K (destroy_act x w o).run
  destroy_killed x o e =
      let p = passed (the_owned w x) _ o e in
      let q = passed (unless (not (eqb x.id 1)) Reserved) _ o p.2 in
      end_killed x (mark_of o) o.client (the_owned_lem w x o (p.1 ∙ ap (λ (y : Owned). Ok y) (ok_is p.0 o q.2))).there

  send_killed : (x : ObjectId) (opcode : ℕ) (as' : List SendArgument) (to : SendingTo) → send_check t x opcode as' w ≡ Ok to → K (send_act x opcode as' w to).run
  send_killed x opcode as' to e =
      let p = passed (unless (sendable (sent_event x opcode as')) BadSize) _ to e in
      let q = passed (the_client w x.client) _ to p.2 in
      go q.0 (the_client_lem w x.client q.0 q.1) (is_live q.0.state) refl q.2
    where
      run_killed : (a : Client) → client_at w x.client ≡ Some a → is_live a.state ≡ true → (s : Sendable) → K (send_run x opcode as' s a w)
      run_killed a there l s =
          cond_both s.message.destructor _ _ (λ (v : World). Killed v c)
          (λ _. placed_live c w dead x.client a there l (send_seat x opcode as' s (seat x.client a (from w))).client)
          (λ _. placed_live c w dead x.client a there l (send_seat x opcode as' s (seat x.client a (from w))).client)

      by_checks : (a : Client) → client_at w x.client ≡ Some a → is_live a.state ≡ true → (r : Result Sendable Refusal) → sendable_to a r ≡ Ok to → K (send_act x opcode as' w to).run
      by_checks a there l (Err f) q = absurd (never_ok f to q)
      by_checks a there l (Ok s) q = subst (λ (y : SendingTo). K (send_act x opcode as' w y).run) (ok_is (record { client = a; what = Some s }) to q) (run_killed a there l s)

      go : (a : Client) → client_at w x.client ≡ Some a → (b : Bool) → is_live a.state ≡ b
          → cond b (sendable_to a (send_checks t.rows a x opcode as')) (Ok (record { client = a; what = None })) ≡ Ok to → K (send_act x opcode as' w to).run
      go a there true l q = by_checks a there l (send_checks t.rows a x opcode as') q
      go a there false l q = subst (λ (y : SendingTo). K (send_act x opcode as' w y).run) (ok_is (record { client = a; what = None }) to q) dead

  post_killed : (x : ObjectId) (code : ℕ) (text : List ℕ) (k : Client) → post_check x text w ≡ Ok k → K (post_act x code text w k).run
  post_killed x code text k e =
      let p = passed (unless (postable text) BadSize) _ k e in
      cond_both (is_live k.state) _ _ (λ (d : Done KillAnswer). K d.run)
      (λ l. placed_live c w dead x.client k (the_client_lem w x.client k p.2) l (post_seat x code text (the_object k x) (seat x.client k (from w))).client) (λ _. dead)

  kill_killed : (d : ClientId) (r : DisconnectReason) (k : Client) → kill_check t d r w ≡ Ok k → K (kill_act d r w k).run
  kill_killed d r k e =
      let p = passed (the_client w d) _ k e in
      let q = passed (reason_check t r) _ k p.2 in
      cond_both (is_live k.state) _ _ (λ (x : Done KillAnswer). K x.run)
      (λ l. placed_live c w dead d k (the_client_lem w d k (p.1 ∙ ap (λ (y : Client). Ok y) (ok_is p.0 k q.2))) l (kill r (seat d k (from w))).client) (λ _. dead)

  add_killed : (row version handler p : ℕ) → K (add_act t row version handler w p).run
  add_killed row version handler p =
      let g = new_global row version handler w in
      along_killed c (λ x s. announce t x (p + 1) g s) (λ x s. announce_same t x (p + 1) g s) (λ x s d. announce_silent t x (p + 1) g s d) w.engine.registry.roll (from (add_world p g w)) dead

  disable_killed : (i : GlobalId) (g : Global) → K (disable_run i w g)
  disable_killed i g =
      cond_both g.disabled _ _ K (λ _. dead)
      (λ _. along_killed c (retract i.name) (λ x s. tell_same (global_remove x.id i.name) s) (λ x s d. tell_silent (global_remove x.id i.name) s d)
      w.engine.registry.roll (from (global_put i.name (Some (disabled_global g)) w)) dead)

  flush_killed : (d : ClientId) (k : Client) → the_client w d ≡ Ok k → K (flush_act d w k).run
  flush_killed d k e = placed c w dead d k (the_client_lem w d k e) k (λ q. (refl, q))

  tidy_end_killed : (x : ObjectId) (o : Option (Object ObjectData)) (k : Client) → client_at w x.client ≡ Some k → K (tidy_end x o k w).run
  tidy_end_killed x None k there = dead
  tidy_end_killed x (Some o) k there = placed c w dead x.client k there (remove x o.«data».mark (seat x.client k (from w))).client (λ d. (refl, d))

  -- the last tidy of a client leaves nobody in its place
  vacated : (d : ClientId) (k : Client) → client_at w d ≡ Some k → Stays c (tidy_act d Told None k w).run.world
  vacated d k there =
      let v = with_place d.place (Some k) w in
      let here : client_at v d ≡ Some k = client_same w d k there k refl in
      let m : Killed v c = placed c w dead d k there k (λ q. (refl, q)) in
      ⊎_elim
      (λ e q f. absurd (not_vacant (client_at (tidy_act d Told None k w).run.world c) q f (ap (client_at (tidy_act d Told None k w).run.world) e ∙ client_gone v d k here)))
      (λ ne. stays c (tidy_act d Told None k w).run.world (m.0, gone_other v d k here c ne ∙ m.1, m.2))
      (cases_client c d)

  tidy_act_stays : (d : ClientId) (s : ClientState) (x : Option ObjectId) (k : Client) → client_at w d ≡ Some k → ((y : ObjectId) → x ≡ Some y → y.client ≡ d) → Stays c (tidy_act d s x k w).run.world
  tidy_act_stays d Live x k there own = stays c w dead
  tidy_act_stays d (Untold r) x k there own = stays c (tidy_act d (Untold r) x k w).run.world (placed c w dead d k there (with_state Told k) (λ q. (refl, refl)))
  tidy_act_stays d Told (Some x) k there own = stays c (tidy_act d Told (Some x) k w).run.world (tidy_end_killed x (find_in k.map x.id) k (ap (client_at w) (own x refl) ∙ there))
  tidy_act_stays d Told None k there own = vacated d k there

  tidy_at_stays : (v : Option Found) → lowest_killed 0 w.engine.store.clients.places ≡ v → Stays c (tidy_at v w).run.world
  tidy_at_stays None e = stays c w dead
  tidy_at_stays (Some f) e =
      let g = found_there 0 w.engine.store.clients.places f e in
      let place : f.place ≡ g.0 = omega (arith, g.1) in
      tidy_act_stays (found_id f) f.client.state (next_handle (found_id f) f.client 0) f.client
      (ap (λ (i : ℕ). named (found_id f) (at w.engine.store.clients.places i)) place ∙ (ap (named (found_id f)) g.2 ∙ named_same (found_id f) f.client refl))
      (next_own (found_id f) f.client 0)

  stays_killed : (call : Call) → Stays c (perform t call w).run.world
  stays_killed (admit d) = stays c (perform t (admit d) w).run.world (checked_killed admitted (admit_check w) (admit_act d w) (admit_killed d))
  stays_killed (step d b) = stays c (perform t (step d b) w).run.world (checked_killed stepped (step_check d b w) (step_act t d b w) (step_killed d b))
  stays_killed (settle_plain x) =
      cond_both (same_ticket w.engine.outstanding (out.Plain x.request)) _ _ (λ (o : Outcome). Stays c o.run.world)
      (λ _. stays c (plain_act x.request w).run.world (settle_sender_killed x.request)) (λ _. stays c w dead)
  stays_killed (settle_making x d) =
      cond_both (same_ticket w.engine.outstanding (out.Making x.request)) _ _ (λ (o : Outcome). Stays c o.run.world)
      (λ _. let s = settle_sender x.request.origin (from w) in stays c (making_act x.request.origin x.request.child d w).run.world (child_killed x.request.child d (living s.run.world x.request.child) s.run refl (settle_sender_killed x.request.origin))) (λ _. stays c w dead)
  stays_killed (create d row version n) = stays c (perform t (create d row version n) w).run.world (checked_killed created (create_check t d row w) (create_act d row version n w) (create_killed d row version n))
  stays_killed (destroy x) = stays c (perform t (destroy x) w).run.world (checked_killed destroyed (destroy_check x w) (destroy_act x w) (destroy_killed x))
  stays_killed (send x opcode as') = stays c (perform t (send x opcode as') w).run.world (checked_killed sent (send_check t x opcode as' w) (send_act x opcode as' w) (send_killed x opcode as'))
  stays_killed (look x) = stays c (perform t (look x) w).run.world (checked_killed looked (the_owned w x) _ (λ p e. dead))
  stays_killed (set x d) = stays c (perform t (set x d) w).run.world (checked_killed changed (the_owned w x) (set_act x d w) (λ o e. mark_killed x d o (from w) dead (the_owned_lem w x o e).there))
  stays_killed (find d id) = stays c (perform t (find d id) w).run.world (checked_killed found (the_client w d) _ (λ p e. dead))
  stays_killed (next d id) = stays c (perform t (next d id) w).run.world (checked_killed found_next (the_client w d) _ (λ p e. dead))
  stays_killed (post x code text) = stays c (perform t (post x code text) w).run.world (checked_killed posted (post_check x text w) (post_act x code text w) (post_killed x code text))
  stays_killed (kill_call d r) = stays c (perform t (kill_call d r) w).run.world (checked_killed killed (kill_check t d r w) (kill_act d r w) (kill_killed d r))
  stays_killed (add row version handler) = stays c (perform t (add row version handler) w).run.world (checked_killed added (add_check t row version w) (add_act t row version handler w) (λ p e. add_killed row version handler p))
  stays_killed (disable i) = stays c (perform t (disable i) w).run.world (checked_killed disabled (the_global w i) (disable_act i w) (λ g e. disable_killed i g))
  stays_killed (remove_call i) = stays c (perform t (remove_call i) w).run.world (checked_killed removed (the_global w i) (remove_act i w) (λ g e. disable_killed i g))
  stays_killed (flush_call d) = stays c (perform t (flush_call d) w).run.world (checked_killed flushed (the_client w d) (flush_act d w) (flush_killed d))
  stays_killed tidy = tidy_at_stays (lowest_killed 0 w.engine.store.clients.places) refl

pub killed_stay_killed : KilledStayKilled
killed_stay_killed t lawful h w r le call c dead = stays_killed t w (holds t lawful r le).kept.counted c dead call
