-- What each call did is what its answer and the lines show.
use Rattle.std.proofs.Common.{◌≡◌, ℕ, ◌+◌, Bool, true, false, cond, eqb, List, [], ◌∷◌, ◌++◌, Some, None, Ok, Err, Option, Result, sym, refl, ap, ◌∙◌, subst, ⊎_elim}
use Rattle.std.proofs.lemmas.Bool.{cond_both, cond-true, cond-false, cases_Bool, eqb-true}
use Rattle.map.specs.declared.DataMark.{DataMark}
use Rattle.map.specs.declared.DataMark.TheVariants.{Number}
use Rattle.map.specs.Map.{find_in}
use Rattle.map.specs.declared.Object.{Object}
use Rattle.map.specs.declared.ObjectData.{ObjectData}
use Rattle.protocol.specs.Lawful.{Lawful}
use Rattle.protocol.specs.declared.refusal.Refusal.{Refusal}
use Rattle.wire.specs.Line.{Line, head_of, write_answer}
use Rattle.wire.specs.declared.answers.WriteError.{WriteError}
use Rattle.backend.specs.declared.ids.ClientId.{ClientId}
use Rattle.backend.specs.declared.ids.ObjectId.{ObjectId}
use Rattle.backend.specs.declared.ids.GlobalId.{GlobalId}
use Rattle.backend.specs.declared.client.Client.{Client}
use Rattle.backend.specs.declared.client.ClientState.{ClientState}
use Rattle.backend.specs.declared.client.ClientState.TheVariants.{Live, Untold, Told}
use Rattle.backend.specs.declared.client.End.{End}
use Rattle.backend.specs.declared.registry.Global.{Global}
use Rattle.backend.specs.declared.ticket.Origin.{Origin}
use Rattle.backend.specs.declared.answers.KillAnswer.{KillAnswer}
use Rattle.backend.specs.declared.ticket.Outstanding.TheVariants as out
use Rattle.backend.specs.Tickets.{same_ticket}
use Rattle.backend.specs.World.{Terms, World, is_live, client_at, with_state}
use Rattle.backend.specs.Acts.{Act, entered, ended, took, refused, received, flushed as act_flushed, opened, Deed, Seat, Run, from, seat, tagged, resumed, kill, flush, offer, end, remove}
use Rattle.backend.specs.Registries.{announce, retract, visit, along_roll}
use Rattle.backend.specs.Events.{global_remove}
use Rattle.backend.specs.Requests.{Buffers}
use Rattle.backend.specs.Checks.{the_client, the_object, the_owned, the_global, Owned}
use Rattle.backend.specs.Sending.{SendArgument, sent_event, Sendable}
use Rattle.backend.specs.Calls.{Done, admit_check, admit_act, step_check, step_of, step_act, living, end_in, sender_ends, settle_sender, child_set, settle_child, making_act, create_check, create_act, create_seat, destroy_check, destroy_act, mark_of, send_check, send_answer, send_end, send_seat, send_run, send_what, send_act, set_act, next_handle, post_check, post_seat, post_act, kill_check, kill_act, add_check, new_global, add_world, add_act, disabled_global, global_put, disable_run, disable_act, remove_act, flush_act, Found, found_id, lowest_killed, tidy_end, tidy_act, tidy_at}
use Rattle.backend.specs.Perform.{Call, admit, step, settle_plain, settle_making, create, destroy, send, look, set, find, next, post, kill as kill_call, add, disable, remove as remove_call, flush as flush_call, tidy, Answer, admitted, stepped, created, destroyed, sent, looked, changed, found, found_next, posted, killed, added, disabled, removed, flushed, Outcome, checked, perform}
use Rattle.accounts.specs.Shown.{one, step_entries, step_ends, entries_shown, ends_shown, send_ends, tidy_ends}
use Rattle.accounts.specs.Accounts.{entries_in, ends_in}
use Rattle.accounts.specs.Tied.{acts_in, done_to, replayed}
use Rattle.accounts.specs.Whole.{AllTied}
use Rattle.accounts.proofs.Ties.{Ties, replay, offer_ties, tell_ties, flush_ties, kill_ties, fail_ties, remove_ties, end_ties, announce_ties}
use Rattle.accounts.proofs.StepTies.{stepped_ties}

-- Lists of acts.

entries_split : (as' bs : List Act) → entries_in (as' ++ bs) ≡ entries_in as' ++ entries_in bs
entries_split [] bs = refl
entries_split (entered x ∷ as') bs = ap (λ (xs : List ObjectId). x ∷ xs) (entries_split as' bs)
entries_split (ended e ∷ as') bs = entries_split as' bs
entries_split (took e ∷ as') bs = entries_split as' bs
entries_split (refused e ∷ as') bs = entries_split as' bs
entries_split (received ∷ as') bs = entries_split as' bs
entries_split (act_flushed ∷ as') bs = entries_split as' bs
entries_split (opened ∷ as') bs = entries_split as' bs

ends_split : (as' bs : List Act) → ends_in (as' ++ bs) ≡ ends_in as' ++ ends_in bs
ends_split [] bs = refl
ends_split (entered x ∷ as') bs = ends_split as' bs
ends_split (ended e ∷ as') bs = ap (λ (xs : List End). e ∷ xs) (ends_split as' bs)
ends_split (took e ∷ as') bs = ends_split as' bs
ends_split (refused e ∷ as') bs = ends_split as' bs
ends_split (received ∷ as') bs = ends_split as' bs
ends_split (act_flushed ∷ as') bs = ends_split as' bs
ends_split (opened ∷ as') bs = ends_split as' bs

acts_tagged : (c : ClientId) (as' : List Act) (ds : List Deed) → acts_in (tagged c as' ++ ds) ≡ as' ++ acts_in ds
acts_tagged c [] ds = refl
acts_tagged c (a ∷ as') ds = ap (λ (bs : List Act). a ∷ bs) (acts_tagged c as' ds)

replayed_here : (p : ℕ) (c : ClientId) (as' : List Act) (ds : List Deed) (l : Line) → eqb p c.place ≡ true → replayed p (tagged c as' ++ ds) l ≡ replay as' (replayed p ds l)
replayed_here p c [] ds l e = refl
replayed_here p c (a ∷ as') ds l e = cond-true (eqb p c.place) _ _ e ∙ ap (done_to a) (replayed_here p c as' ds l e)

replayed_there : (p : ℕ) (c : ClientId) (as' : List Act) (ds : List Deed) (l : Line) → eqb p c.place ≡ false → replayed p (tagged c as' ++ ds) l ≡ replayed p ds l
replayed_there p c [] ds l e = refl
replayed_there p c (a ∷ as') ds l e = cond-false (eqb p c.place) _ _ e ∙ replayed_there p c as' ds l e

-- a run on a world: its entries and ends, and what it does to the lines
record Runs (w : World) (es : List ObjectId) (ns : List End) (r : Run) : Type 0 where
  entries_are : entries_in (acts_in r.deeds) ≡ es
  ends_are : ends_in (acts_in r.deeds) ≡ ns
  lines_are : (p : ℕ) → r.world.lines p ≡ replayed p r.deeds (w.lines p)

-- what is done to other parts of a world is not seen in the lines
relined : {w : World} {es : List ObjectId} {ns : List End} (r : Run) (v : World) → ((p : ℕ) → v.lines p ≡ r.world.lines p) → Runs w es ns r → Runs w es ns (record { world = v; deeds = r.deeds })
relined r v e g = record { entries_are = g.entries_are; ends_are = g.ends_are; lines_are = λ p. e p ∙ g.lines_are p }

resumed_runs : {w : World} {es fs : List ObjectId} {ns ms : List End} (r : Run) (c : ClientId) (s : Seat) → Runs w es ns r → Ties (r.world.lines c.place) fs ms s → Runs w (fs ++ es) (ms ++ ns) (resumed c s r)
resumed_runs {w} {es} {fs} {ns} {ms} r c s g q = record {
  entries_are = ap entries_in (acts_tagged c s.acts r.deeds) ∙ (entries_split s.acts (acts_in r.deeds)
      ∙ (ap (λ (xs : List ObjectId). xs ++ entries_in (acts_in r.deeds)) q.entries_are ∙ ap (λ (xs : List ObjectId). fs ++ xs) g.entries_are));
  ends_are = ap ends_in (acts_tagged c s.acts r.deeds) ∙ (ends_split s.acts (acts_in r.deeds)
      ∙ (ap (λ (xs : List End). xs ++ ends_in (acts_in r.deeds)) q.ends_are ∙ ap (λ (xs : List End). ms ++ xs) g.ends_are));
  lines_are = λ p. ⊎_elim
      (λ e. cond-true (eqb p c.place) s.line (r.world.lines p) e
      ∙ (q.line_is
      ∙ (ap (λ (i : ℕ). replay s.acts (r.world.lines i)) (sym (eqb-true p c.place e))
      ∙ (ap (replay s.acts) (g.lines_are p) ∙ sym (replayed_here p c s.acts r.deeds (w.lines p) e)))))
      (λ e. cond-false (eqb p c.place) s.line (r.world.lines p) e ∙ (g.lines_are p ∙ sym (replayed_there p c s.acts r.deeds (w.lines p) e)))
      (cases_Bool (eqb p c.place));
}

nothing_runs : (w : World) → Runs w [] [] (from w)
nothing_runs w = record { entries_are = refl; ends_are = refl; lines_are = λ p. refl }

seat_ties : (c : ClientId) (k : Client) (r : Run) → Ties (r.world.lines c.place) [] [] (seat c k r)
seat_ties c k r = record { entries_are = refl; ends_are = refl; line_is = refl }

-- what is done at one client
at_runs : {w : World} {fs : List ObjectId} {ms : List End} (c : ClientId) (s : Seat) → Ties (w.lines c.place) fs ms s → Runs w (fs ++ []) (ms ++ []) (resumed c s (from w))
at_runs {w} c s q = resumed_runs (from w) c s (nothing_runs w) q

visit_runs : {w : World} (c : ClientId) (f : Seat → Seat) → ((l : Line) (s : Seat) → Ties l [] [] s → Ties l [] [] (f s)) → (k : Option Client) (r : Run) → Runs w [] [] r → Runs w [] [] (visit c f k r)
visit_runs c f fine None r g = g
visit_runs c f fine (Some k) r g = resumed_runs r c (f (seat c k r)) g (fine (r.world.lines c.place) (seat c k r) (seat_ties c k r))

along_runs : {w : World} (f : ObjectId → Seat → Seat) → ((x : ObjectId) (l : Line) (s : Seat) → Ties l [] [] s → Ties l [] [] (f x s)) → (xs : List (Option ObjectId)) (r : Run) → Runs w [] [] r → Runs w [] [] (along_roll f xs r)
along_runs f fine [] r g = g
along_runs f fine (None ∷ xs) r g = along_runs f fine xs r g
along_runs f fine (Some x ∷ xs) r g = along_runs f fine xs (visit x.client (f x) (client_at r.world x.client) r) (visit_runs x.client (f x) (fine x) (client_at r.world x.client) r g)

-- an outcome whose answer shows what was done
record Says (w : World) (o : Outcome) : Type 0 where
  entries_are_shown : entries_in (acts_in o.run.deeds) ≡ entries_shown o.answer
  ends_are_shown : ends_in (acts_in o.run.deeds) ≡ ends_shown o.answer
  lines_shown : (p : ℕ) → o.run.world.lines p ≡ replayed p o.run.deeds (w.lines p)

says : {w : World} (o : Outcome) → Runs w (entries_shown o.answer) (ends_shown o.answer) o.run → Says w o
says o g = record { entries_are_shown = g.entries_are; ends_are_shown = g.ends_are; lines_shown = g.lines_are }

checked_says : {P A : Type 0} (w : World) (f : Result A Refusal → Answer) → ((e : Refusal) → (entries_shown (f (Err e)) ≡ []) × (ends_shown (f (Err e)) ≡ [])) → (r : Result P Refusal) (act : P → Done A)
    → ((p : P) → Runs w (entries_shown (f (Ok (act p).value))) (ends_shown (f (Ok (act p).value))) (act p).run) → Says w (checked f r w act)
checked_says w f none (Err e) act fine = record { entries_are_shown = sym (none e).0; ends_are_shown = sym (none e).1; lines_shown = λ p. refl }
checked_says w f none (Ok p) act fine = says (checked f (Ok p) w act) (fine p)

nothing_after : {A : Type 0} (xs : List A) → xs ++ [] ≡ xs
nothing_after [] = refl
nothing_after (x ∷ xs) = ap (λ (ys : List _). x ∷ ys) (nothing_after xs)

trimmed : {w : World} (es : List ObjectId) (ns : List End) (r : Run) → Runs w (es ++ []) (ns ++ []) r → Runs w es ns r
trimmed es ns r g = record { entries_are = g.entries_are ∙ nothing_after es; ends_are = g.ends_are ∙ nothing_after ns; lines_are = g.lines_are }

module _ (t : Terms) (lawful : Lawful t.rows) (w : World) where
  -- what one client's seat shows
  seat_runs : (es : List ObjectId) (ns : List End) (c : ClientId) (s : Seat) → Ties (w.lines c.place) es ns s → Runs w es ns (resumed c s (from w))
  seat_runs es ns c s q = trimmed es ns (resumed c s (from w)) (at_runs c s q)

  sat : (c : ClientId) (k : Client) → Ties (w.lines c.place) [] [] (seat c k (from w))
  sat c k = seat_ties c k (from w)

  still : Runs w [] [] (from w)
  still = nothing_runs w

  admit_runs : (d p : ℕ) → Runs w (entries_shown (admitted (Ok (admit_act d w p).value))) [] (admit_act d w p).run
  admit_runs d p = record {
    entries_are = refl;
    ends_are = refl;
    lines_are = λ q. ⊎_elim
        (λ e. cond-true (eqb q p) _ _ e ∙ sym (cond-true (eqb q p) _ _ e ∙ cond-true (eqb q p) _ _ e))
        (λ e. cond-false (eqb q p) _ _ e ∙ sym (cond-false (eqb q p) _ _ e ∙ cond-false (eqb q p) _ _ e)) (cases_Bool (eqb q p));
  }

  step_runs : (c : ClientId) (b : Buffers) (k : Client) → Runs w (step_entries (step_act t c b w k).value) (step_ends (step_act t c b w k).value) (step_act t c b w k).run
  step_runs c b k =
      let s = step_of t c b w k in
      relined (resumed c s.seat (from w)) (step_act t c b w k).run.world (λ p. refl)
      (seat_runs (step_entries s.answer) (step_ends s.answer) c s.seat
      (stepped_ties (record { terms = t; registry = w.engine.registry; client = c }) (w.lines c.place) lawful (head_of (w.lines c.place)) (seat c k (from w)) b (sat c k)))

  end_runs : (x : ObjectId) (mark : DataMark) (k : Client) → Runs w [] (record { object = x; mark = mark } ∷ []) (end_in x mark k (from w))
  end_runs x mark k =
      relined _ (end_in x mark k (from w)).world (λ p. refl) (seat_runs [] (record { object = x; mark = mark } ∷ []) x.client (end x mark (seat x.client k (from w))) (end_ties x mark (seat x.client k (from w)) (sat x.client k)))

  sender_runs : (o : Origin) (v : Option Owned) → Runs w [] (one (sender_ends o v (from w)).value) (sender_ends o v (from w)).run
  sender_runs o None = still
  sender_runs o (Some x) = end_runs o.sender o.«data» x.client

  settle_sender_runs : (o : Origin) → Runs w [] (one (settle_sender o (from w)).value) (settle_sender o (from w)).run
  settle_sender_runs o =
      cond_both o.destructor _ _ (λ (d : Done (Option End)). Runs w [] (one d.value) d.run) (λ _. sender_runs o (living w o.sender)) (λ _. still)

  child_runs : (es : List ObjectId) (ns : List End) (x : ObjectId) (d : ℕ) (v : Option Owned) (r : Run) → Runs w es ns r → Runs w es ns (child_set x d v r).run
  child_runs es ns x d None r g = g
  child_runs es ns x d (Some o) r g = relined r _ (λ p. refl) g

  making_runs : (o : Origin) (x : ObjectId) (d : ℕ) → Runs w [] (one (making_act o x d w).value.ended) (making_act o x d w).run
  making_runs o x d =
      let s = settle_sender o (from w) in
      relined (settle_child x d s.run).run _ (λ p. refl) (child_runs [] (one s.value) x d (living s.run.world x) s.run (settle_sender_runs o))

  send_ends_lem : (v : Result (Unit {0}) WriteError) (e : Option End) → send_ends (send_answer v e) ≡ one e
  send_ends_lem (Ok u) e = refl
  send_ends_lem (Err r) e = refl

  sent_ties : (x : ObjectId) (opcode : ℕ) (as' : List SendArgument) (s : Sendable) (k : Client)
      → Ties (w.lines x.client.place) [] (one (send_end x s)) (send_seat x opcode as' s (seat x.client k (from w)))
  sent_ties x opcode as' s k = go s.message.destructor
    where
      go : (b : Bool) → Ties (w.lines x.client.place) [] (one (cond b (Some (record { object = x; mark = s.object.«data».mark })) None))
          (cond b (end x s.object.«data».mark (offer (sent_event x opcode as') (seat x.client k (from w)))) (offer (sent_event x opcode as') (seat x.client k (from w))))
      go true = end_ties x s.object.«data».mark _ (offer_ties (sent_event x opcode as') _ (sat x.client k))
      go false = offer_ties (sent_event x opcode as') _ (sat x.client k)

  send_runs : (x : ObjectId) (opcode : ℕ) (as' : List SendArgument) (k : Client) (v : Option Sendable) → Runs w [] (send_ends (send_what x opcode as' k w v).value) (send_what x opcode as' k w v).run
  send_runs x opcode as' k None = still
  send_runs x opcode as' k (Some s) =
      subst (λ (ns : List End). Runs w [] ns (send_run x opcode as' s k w)) (sym (send_ends_lem (write_answer (sent_event x opcode as') (w.lines x.client.place)) (send_end x s)))
      (relined (resumed x.client (send_seat x opcode as' s (seat x.client k (from w))) (from w)) _
      (λ p. cond_both s.message.destructor _ _ (λ (v : World). v.lines p ≡ (resumed x.client (send_seat x opcode as' s (seat x.client k (from w))) (from w)).world.lines p) (λ _. refl) (λ _. refl))
      (seat_runs [] (one (send_end x s)) x.client (send_seat x opcode as' s (seat x.client k (from w))) (sent_ties x opcode as' s k)))

  post_runs : (x : ObjectId) (code : ℕ) (text : List ℕ) (k : Client) → Runs w [] [] (post_act x code text w k).run
  post_runs x code text k =
      cond_both (is_live k.state) _ _ (λ (d : Done KillAnswer). Runs w [] [] d.run)
      (λ _. seat_runs [] [] x.client (post_seat x code text (the_object k x) (seat x.client k (from w))) (ties (the_object k x))) (λ _. still)
    where
      ties : (r : Result (Object ObjectData) Refusal) → Ties (w.lines x.client.place) [] [] (post_seat x code text r (seat x.client k (from w)))
      ties (Ok o) = fail_ties code x.id x.row text (seat x.client k (from w)) (sat x.client k)
      ties (Err e) = kill_ties _ (flush (seat x.client k (from w))) (flush_ties (seat x.client k (from w)) (sat x.client k))

  disable_runs : (i : GlobalId) (g : Global) → Runs w [] [] (disable_run i w g)
  disable_runs i g =
      cond_both g.disabled _ _ (Runs w [] []) (λ _. still)
      (λ _. along_runs (retract i.name) (λ x l s q. tell_ties (global_remove x.id i.name) s q) w.engine.registry.roll (from (global_put i.name (Some (disabled_global g)) w))
      (relined (from w) _ (λ p. refl) still))

  tidy_end_runs : (x : ObjectId) (o : Option (Object ObjectData)) (k : Client) → Runs w [] (tidy_ends (tidy_end x o k w).value) (tidy_end x o k w).run
  tidy_end_runs x None k = still
  tidy_end_runs x (Some o) k =
      relined _ _ (λ p. refl)
      (seat_runs [] (record { object = x; mark = o.«data».mark } ∷ []) x.client (remove x o.«data».mark (seat x.client k (from w))) (remove_ties x o.«data».mark (seat x.client k (from w)) (sat x.client k)))

  tidy_act_runs : (c : ClientId) (s : ClientState) (x : Option ObjectId) (k : Client) → Runs w [] (tidy_ends (tidy_act c s x k w).value) (tidy_act c s x k w).run
  tidy_act_runs c Live x k = still
  tidy_act_runs c (Untold r) x k = seat_runs [] [] c (record { client = with_state Told k; line = w.lines c.place; acts = [] }) (record { entries_are = refl; ends_are = refl; line_is = refl })
  tidy_act_runs c Told (Some x) k = tidy_end_runs x (find_in k.map x.id) k
  tidy_act_runs c Told None k =
      relined (resumed c (flush (seat c k (from w))) (from w)) _ (λ p. refl) (seat_runs [] [] c (flush (seat c k (from w))) (flush_ties (seat c k (from w)) (sat c k)))

  tidy_runs : (v : Option Found) → Runs w [] (tidy_ends (tidy_at v w).value) (tidy_at v w).run
  tidy_runs None = still
  tidy_runs (Some f) = tidy_act_runs (found_id f) f.client.state (next_handle (found_id f) f.client 0) f.client

  all_say : (c : Call) → Says w (perform t c w)
  all_say (admit d) = checked_says w admitted (λ e. (refl, refl)) (admit_check w) (admit_act d w) (admit_runs d)
  all_say (step c b) = checked_says w stepped (λ e. (refl, refl)) (step_check c b w) (step_act t c b w) (step_runs c b)
  all_say (settle_plain x) =
      cond_both (same_ticket w.engine.outstanding (out.Plain x.request)) _ _ (Says w)
      (λ _. says _ (relined (settle_sender x.request (from w)).run _ (λ p. refl) (settle_sender_runs x.request))) (λ _. says _ still)
  all_say (settle_making x d) =
      cond_both (same_ticket w.engine.outstanding (out.Making x.request)) _ _ (Says w) (λ _. says _ (making_runs x.request.origin x.request.child d)) (λ _. says _ still)
  all_say (create c row version d) = checked_says w created (λ e. (refl, refl)) (create_check t c row w) (create_act c row version d w)
      (λ x. seat_runs _ [] c (create_seat c x.id row version (Number d) (seat c x.client (from w))) (record { entries_are = refl; ends_are = refl; line_is = refl }))
  all_say (destroy x) = checked_says w destroyed (λ e. (refl, refl)) (destroy_check x w) (destroy_act x w) (λ o. end_runs x (mark_of o) o.client)
  all_say (send x opcode as') = checked_says w sent (λ e. (refl, refl)) (send_check t x opcode as' w) (send_act x opcode as' w) (λ s. send_runs x opcode as' s.client s.what)
  all_say (look x) = checked_says w looked (λ e. (refl, refl)) (the_owned w x) _ (λ p. still)
  all_say (set x d) = checked_says w changed (λ e. (refl, refl)) (the_owned w x) (set_act x d w) (λ o. relined (from w) _ (λ p. refl) still)
  all_say (find c id) = checked_says w found (λ e. (refl, refl)) (the_client w c) _ (λ p. still)
  all_say (next c id) = checked_says w found_next (λ e. (refl, refl)) (the_client w c) _ (λ p. still)
  all_say (post x code text) = checked_says w posted (λ e. (refl, refl)) (post_check x text w) (post_act x code text w) (post_runs x code text)
  all_say (kill_call c r) = checked_says w killed (λ e. (refl, refl)) (kill_check t c r w) (kill_act c r w)
      (λ k. cond_both (is_live k.state) _ _ (λ (d : Done KillAnswer). Runs w [] [] d.run) (λ _. seat_runs [] [] c (kill r (seat c k (from w))) (kill_ties r (seat c k (from w)) (sat c k))) (λ _. still))
  all_say (add row version handler) = checked_says w added (λ e. (refl, refl)) (add_check t row version w) (add_act t row version handler w)
      (λ p. along_runs (λ x s. announce t x (p + 1) (new_global row version handler w) s) (λ x l s q. announce_ties t x (p + 1) (new_global row version handler w) s q)
      w.engine.registry.roll (from (add_world p (new_global row version handler w) w)) (relined (from w) _ (λ q. refl) still))
  all_say (disable i) = checked_says w disabled (λ e. (refl, refl)) (the_global w i) (disable_act i w) (λ g. disable_runs i g)
  all_say (remove_call i) = checked_says w removed (λ e. (refl, refl)) (the_global w i) (remove_act i w) (λ g. relined (disable_run i w g) _ (λ p. refl) (disable_runs i g))
  all_say (flush_call c) = checked_says w flushed (λ e. (refl, refl)) (the_client w c) (flush_act c w) (λ k. seat_runs [] [] c (flush (seat c k (from w))) (flush_ties (seat c k (from w)) (sat c k)))
  all_say tidy = says _ (tidy_runs (lowest_killed 0 w.engine.store.clients.places))

pub all_tied : AllTied
all_tied t lawful c w = let s = all_say t lawful w c in record { entries_are_shown = s.entries_are_shown; ends_are_shown = s.ends_are_shown; lines_shown = s.lines_shown }
