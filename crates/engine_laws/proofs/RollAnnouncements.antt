-- What the clients on the roll are told of a global that is added, and of one that goes.
use Rattle.std.proofs.Common.{◌≡◌, ℕ, zero, suc, ◌+◌, true, false, eqb, leb, ◌≢◌, List, [], ◌∷◌, ◌++◌, length, take, Some, None, Ok, Err, Option, Result, sym, refl, ap, ◌∙◌, subst, ⊎_elim, append_assoc, arith}
use Rattle.std.proofs.lemmas.Bool.{cond_both, cond-true, cond-false, cases_Bool, eq-eqb, ne_eqb, le-leb, lt-leb}
use Rattle.std.proofs.lemmas.List.{append-nil}
use Rattle.protocol.specs.Lawful.{Lawful}
use Rattle.protocol.specs.declared.refusal.Refusal.{Refusal}
use Rattle.message.specs.Events.{EventModel, sendable}
use Rattle.wire.specs.Line.{Line}
use Rattle.backend.specs.declared.ids.ClientId.{ClientId}
use Rattle.backend.specs.declared.ids.ObjectId.{ObjectId}
use Rattle.backend.specs.declared.ids.GlobalId.{GlobalId}
use Rattle.backend.specs.declared.client.Client.{Client}
use Rattle.backend.specs.declared.registry.Global.{Global}
use Rattle.backend.specs.Acts.{Seat, Run, from, seat, offer}
use Rattle.backend.specs.Checks.{present, the_global}
use Rattle.backend.specs.Events.{global_remove}
use Rattle.protocol.specs.declared.refusal.Refusal.TheVariants.{NoGlobal}
use Rattle.backend.specs.Calls.{disabled_global, global_put, disable_run, disable_act, remove_act, add_check, add_act, new_global, add_world}
use Rattle.backend.specs.Ids.{same_client}
use Rattle.backend.specs.Registries.{global_id, global_at, retract, visible, announce, visit, along_roll}
use Rattle.backend.specs.World.{Terms, World, client_at, is_live}
use Rattle.backend.specs.Perform.{disable, remove, added, disabled, removed, checked, perform}
use Rattle.accounts.proofs.Books.{some_is}
use Rattle.accounts.proofs.Kept.{cases_client, same_client_self, other_client, client_same, client_other}
use Rattle.engine_laws.specs.Announced.{announcement, Tells, to_registries, HearsOfNew, NewGlobalIsAnnounced, HearsOfGone, GoneGlobalIsRetracted}
use Rattle.engine_laws.proofs.KilledLines.{apart}
use Rattle.engine_laws.proofs.Silence.{tell_same, tell_silent, announce_same, announce_silent}
use Rattle.engine_laws.proofs.Announcements.{announcement_sendable, offer_taken, offer_lost, one_less, take_nothing}

-- something is told along the roll, of which killed clients hear nothing
module _ (f : ObjectId → Seat → Seat) (same : (x : ObjectId) (s : Seat) → (f x s).client.serial ≡ s.client.serial) (dead_same : (x : ObjectId) (s : Seat) → is_live s.client.state ≡ false → f x s ≡ s)
    (event : ObjectId → EventModel) (fits : (x : ObjectId) → sendable (event x) ≡ true) (c : ClientId) where
  abbrev after : ObjectId → Run → Run
  after x r = visit x.client (f x) (client_at r.world x.client) r

  -- the client, and its line
  record Stands (k : Client) (l : Line) (v : World) : Type 0 where
    client : client_at v c ≡ Some k
    line : v.lines c.place ≡ l

  -- a visit to another client
  other_stands : (x : ObjectId) → c ≢ x.client → (k : Client) (r : Run) → client_at r.world c ≡ Some k → Stands k (r.world.lines c.place) (after x r).world
  other_stands x ne k r here = go (client_at r.world x.client) refl
    where
      go : (v : Option Client) → client_at r.world x.client ≡ v → Stands k (r.world.lines c.place) (visit x.client (f x) v r).world
      go None e = record { client = here; line = refl }
      go (Some q) e = record {
        client = client_other r.world x.client q e (f x (seat x.client q r)).client (same x (seat x.client q r)) c ne ∙ here;
        line = cond-false (eqb c.place x.client.place) _ (r.world.lines c.place) (ne_eqb c.place x.client.place (apart r.world c r.world x.client q k e here ne));
      }

  -- a visit to the client
  own_stands : (x : ObjectId) → c ≡ x.client → (k : Client) (r : Run) → client_at r.world c ≡ Some k
      → Stands (f x (seat c k r)).client (f x (seat c k r)).line (after x r).world
  own_stands x e k r here =
      subst (λ (v : Option Client). Stands (f x (seat c k r)).client (f x (seat c k r)).line (visit x.client (f x) v r).world) (sym here ∙ ap (client_at r.world) e)
      (subst (λ (d : ClientId). Stands (f x (seat c k r)).client (f x (seat c k r)).line (visit d (f x) (Some k) r).world) e (record {
        client = client_same r.world c k here (f x (seat c k r)).client (same x (seat c k r));
        line = cond-true (eqb c.place c.place) _ (r.world.lines c.place) (eq-eqb c.place c.place refl);
      }))

  -- where the announcement does nothing at the client's seat, the whole roll does nothing to it
  module _ (k : Client) (silent : (x : ObjectId) (s : Seat) → c ≡ x.client → s.client ≡ k → f x s ≡ s) where
    visit_unmoved : (x : ObjectId) (r : Run) → client_at r.world c ≡ Some k → Stands k (r.world.lines c.place) (after x r).world
    visit_unmoved x r here =
        ⊎_elim
        (λ e. let s = own_stands x e k r here in let q = silent x (seat c k r) e refl in
        record { client = s.client ∙ ap (λ (y : Seat). Some y.client) q; line = s.line ∙ ap (λ (y : Seat). y.line) q })
        (λ ne. other_stands x ne k r here) (cases_client c x.client)

    unmoved : (xs : List (Option ObjectId)) (r : Run) → client_at r.world c ≡ Some k → Stands k (r.world.lines c.place) (along_roll f xs r).world
    unmoved [] r here = record { client = here; line = refl }
    unmoved (None ∷ xs) r here = unmoved xs r here
    unmoved (Some x ∷ xs) r here =
        let s = visit_unmoved x r here in
        let u = unmoved xs (after x r) s.client in
        record { client = u.client; line = u.line ∙ s.line }

  -- a client that is killed
  killed_unmoved : (k : Client) → is_live k.state ≡ false → (xs : List (Option ObjectId)) (r : Run) → client_at r.world c ≡ Some k → Stands k (r.world.lines c.place) (along_roll f xs r).world
  killed_unmoved k d = unmoved k (λ x s e q. dead_same x s (ap (λ (y : Client). is_live y.state) q ∙ d))

  -- a client that hears nothing
  tells_nothing : (k : Client) → is_live k.state ≡ true → (before then : World) → Stands k (before.lines c.place) then → Tells c before [] then
  tells_nothing k l before then s = record {
    line = ap (λ (x : Line). x.events) s.line ∙ (sym (append-nil (before.lines c.place).events) ∙ ap (λ (es : List EventModel). (before.lines c.place).events ++ es) (sym (take_nothing (before.lines c.place).allowance)));
    live = λ q e. ap (λ (y : Client). is_live y.state) (some_is q k (sym e ∙ s.client)) ∙ (l ∙ sym (le-leb 0 (before.lines c.place).allowance (omega arith)));
  }

  -- what is told counts from the line alone
  same_before : (u v : World) (es : List EventModel) (then : World) → v.lines c.place ≡ u.lines c.place → Tells c v es then → Tells c u es then
  same_before u v es then e a = record {
    line = a.line ∙ ap (λ (l : Line). l.events ++ take l.allowance es) e;
    live = λ q f. a.live q f ∙ ap (λ (l : Line). leb (length es) l.allowance) e;
  }

  abbrev events : List (Option ObjectId) → List EventModel
  events xs = to_registries c event xs

  -- a live client at whose seat the event is offered
  module _ (k : Client) (l : is_live k.state ≡ true) (seen : (x : ObjectId) (s : Seat) → c ≡ x.client → s.client ≡ k → f x s ≡ offer (event x) s) where
    told_on : (x : ObjectId) (xs : List (Option ObjectId)) (r : Run) → c ≡ x.client → client_at r.world c ≡ Some k
        → ((q : Run) → client_at q.world c ≡ Some k → Tells c q.world (events xs) (along_roll f xs q).world)
        → Tells c r.world (event x ∷ events xs) (along_roll f xs (after x r)).world
    told_on x xs r e here rest = go (r.world.lines c.place).allowance refl
      where
        a : EventModel
        a = event x

        s : Seat
        s = seat c k r

        stands : Stands (offer a s).client (offer a s).line (after x r).world
        stands = subst (λ (q : Seat). Stands q.client q.line (after x r).world) (seen x s e refl) (own_stands x e k r here)

        go : (n : ℕ) → (r.world.lines c.place).allowance ≡ n → Tells c r.world (a ∷ events xs) (along_roll f xs (after x r)).world
        go zero z =
            let o = offer_lost a s (fits x) z in
            let u = killed_unmoved (offer a s).client o.dead xs (after x r) stands.client in
            record {
              line = ap (λ (y : Line). y.events) (u.line ∙ (stands.line ∙ o.line)) ∙ (sym (append-nil s.line.events) ∙ ap (λ (n : ℕ). s.line.events ++ take n (a ∷ events xs)) (sym z));
              live = λ q f. ap (λ (y : Client). is_live y.state) (some_is q (offer a s).client (sym f ∙ u.client)) ∙ (o.dead ∙ sym (lt-leb (suc (length (events xs))) s.line.allowance (omega (arith, z))));
            }
        go (suc n) z =
            let o = offer_taken a s (fits x) n z in
            let then = rest (after x r) (stands.client ∙ ap (λ (y : Client). Some y) o.client) in
            let more : ((after x r).world.lines c.place).events ≡ s.line.events ++ a ∷ [] = ap (λ (y : Line). y.events) stands.line ∙ o.events in
            let left : ((after x r).world.lines c.place).allowance ≡ n = ap (λ (y : Line). y.allowance) stands.line ∙ o.allowance in
            record {
              line = then.line ∙ (ap (λ (es : List EventModel). es ++ take ((after x r).world.lines c.place).allowance (events xs)) more
                  ∙ (ap (λ (i : ℕ). (s.line.events ++ a ∷ []) ++ take i (events xs)) left
                  ∙ (append_assoc s.line.events (a ∷ []) (take n (events xs)) ∙ ap (λ (i : ℕ). s.line.events ++ take i (a ∷ events xs)) (sym z))));
              live = λ q f. then.live q f ∙ (ap (leb (length (events xs))) left ∙ (sym (one_less (length (events xs)) n) ∙ ap (leb (suc (length (events xs)))) (sym z)));
            }

    told : (xs : List (Option ObjectId)) (r : Run) → client_at r.world c ≡ Some k → Tells c r.world (events xs) (along_roll f xs r).world
    told [] r here = tells_nothing k l r.world r.world (record { client = here; line = refl })
    told (None ∷ xs) r here = told xs r here
    told (Some x ∷ xs) r here =
        ⊎_elim
        (λ e. subst (λ (es : List EventModel). Tells c r.world es (along_roll f xs (after x r)).world)
        (sym (cond-true (same_client c x.client) (event x ∷ events xs) (events xs) (subst (λ (d : ClientId). same_client c d ≡ true) e (same_client_self c))))
        (told_on x xs r e here (λ q h. told xs q h)))
        (λ ne. subst (λ (es : List EventModel). Tells c r.world es (along_roll f xs (after x r)).world)
        (sym (cond-false (same_client c x.client) (event x ∷ events xs) (events xs) (other_client c x.client ne)))
        (let s = other_stands x ne k r here in same_before r.world (after x r).world (events xs) (along_roll f xs (after x r)).world s.line (told xs (after x r) s.client)))
        (cases_client c x.client)

-- A global that is added.

module _ (t : Terms) (name : ℕ) (g : Global) (c : ClientId) (k : Client) where
  -- its announcement is offered where the policy shows it
  shown_offered : is_live k.state ≡ true → visible t c k name g ≡ true → (x : ObjectId) (s : Seat) → c ≡ x.client → s.client ≡ k → announce t x name g s ≡ offer (announcement t x name g) s
  shown_offered l shown x s e q =
      cond-true (visible t x.client s.client name g) _ s (ap (λ (y : Client). visible t x.client y name g) q ∙ (ap (λ (d : ClientId). visible t d k name g) (sym e) ∙ shown))
      ∙ cond-true (is_live s.client.state) _ s (ap (λ (y : Client). is_live y.state) q ∙ l)

  -- and else nothing is done
  unseen_silent : visible t c k name g ≡ false → (x : ObjectId) (s : Seat) → c ≡ x.client → s.client ≡ k → announce t x name g s ≡ s
  unseen_silent u x s e q =
      cond-false (visible t x.client s.client name g) _ s (ap (λ (y : Client). visible t x.client y name g) q ∙ (ap (λ (d : ClientId). visible t d k name g) (sym e) ∙ u))

module _ (t : Terms) (lawful : Lawful t.rows) (row version handler : ℕ) (w : World) (c : ClientId) (k : Client) (there : client_at w c ≡ Some k) where
  hears : (p : ℕ) → HearsOfNew t (global_id (p + 1) (new_global row version handler w)) row version handler c k w (add_act t row version handler w p).run.world
  hears p =
      let g = new_global row version handler w in
      let f = λ (x : ObjectId) (s : Seat). announce t x (p + 1) g s in
      let same = λ (x : ObjectId) (s : Seat). announce_same t x (p + 1) g s in
      let silent = λ (x : ObjectId) (s : Seat) (d : is_live s.client.state ≡ false). announce_silent t x (p + 1) g s d in
      let event = λ (x : ObjectId). announcement t x (p + 1) g in
      let fits = λ (x : ObjectId). announcement_sendable t lawful x (p + 1) g in
      let v = visible t c k (p + 1) g in
      let roll = w.engine.registry.roll in
      let run = from (add_world p g w) in
      let then = (add_act t row version handler w p).run.world in
      record {
        live = λ l. ⊎_elim
            (λ s. subst (λ (es : List EventModel). Tells c w es then) (sym (cond-true v _ [] s))
            (same_before f same silent event fits c w (add_world p g w) _ then refl (told f same silent event fits c k l (shown_offered t (p + 1) g c k l s) roll run there)))
            (λ u. subst (λ (es : List EventModel). Tells c w es then) (sym (cond-false v _ [] u))
            (let s = unmoved f same silent event fits c k (unseen_silent t (p + 1) g c k u) roll run there in tells_nothing f same silent event fits c k l w then (record { client = s.client; line = s.line })))
            (cases_Bool v);
        killed = λ d. (killed_unmoved f same silent event fits c k d roll run there).line;
      }

  by_check : (r : Result ℕ Refusal) (i : GlobalId) → (checked added r w (add_act t row version handler w)).answer ≡ added (Ok i)
      → HearsOfNew t i row version handler c k w (checked added r w (add_act t row version handler w)).run.world
  by_check (Err e) i a = let y : ◌≡◌ {A = ℕ} 0 1 = cc in absurd (omega arith)
  by_check (Ok p) i a =
      let same : global_id (p + 1) (new_global row version handler w) ≡ i = cc in
      subst (λ (j : GlobalId). HearsOfNew t j row version handler c k w (add_act t row version handler w p).run.world) same (hears p)

pub new_global_is_announced : NewGlobalIsAnnounced
new_global_is_announced t lawful row version handler w i a c k there = by_check t lawful row version handler w c k there (add_check t row version w) i a

-- A global that goes.

module _ (t : Terms) (w : World) (i : GlobalId) (g : Global) (named : global_at w.engine.registry.globals.places i ≡ Some g) (c : ClientId) (k : Client) (there : client_at w c ≡ Some k) where
  retracted : HearsOfGone i g c k w (disable_run i w g).world
  retracted =
      let f = retract i.name in
      let same = λ (x : ObjectId) (s : Seat). tell_same (global_remove x.id i.name) s in
      let silent = λ (x : ObjectId) (s : Seat) (d : is_live s.client.state ≡ false). tell_silent (global_remove x.id i.name) s d in
      let event = λ (x : ObjectId). global_remove x.id i.name in
      let fits = λ (x : ObjectId). fits_always x in
      let roll = w.engine.registry.roll in
      let v = global_put i.name (Some (disabled_global g)) w in
      record {
        live = λ d l. subst (λ (r : Run). Tells c w (to_registries c event roll) r.world) (sym (cond-false g.disabled (from w) (along_roll f roll (from v)) d))
            (same_before f same silent event fits c w v _ (along_roll f roll (from v)).world refl
            (told f same silent event fits c k l (λ x s e q. cond-true (is_live s.client.state) _ s (ap (λ (y : Client). is_live y.state) q ∙ l)) roll (from v) there));
        killed = λ d. cond_both g.disabled (from w) (along_roll f roll (from v)) (λ (r : Run). r.world.lines c.place ≡ w.lines c.place) (λ _. refl)
            (λ _. (killed_unmoved f same silent event fits c k d roll (from v) there).line);
        again = λ d. ap (λ (r : Run). r.world.lines c.place) (cond-true g.disabled (from w) (along_roll f roll (from v)) d);
      }
    where
      fits_always : (x : ObjectId) → sendable (global_remove x.id i.name) ≡ true
      fits_always x = refl

  found : the_global w i ≡ Ok g
  found = ap (λ (v : Option Global). present v NoGlobal) named

  disables : HearsOfGone i g c k w (perform t (disable i) w).run.world
  disables = subst (λ (r : Result Global Refusal). HearsOfGone i g c k w (checked disabled r w (disable_act i w)).run.world) (sym found) retracted

  removes : HearsOfGone i g c k w (perform t (remove i) w).run.world
  removes =
      subst (λ (r : Result Global Refusal). HearsOfGone i g c k w (checked removed r w (remove_act i w)).run.world) (sym found)
      (record { live = λ d l. let s = retracted.live d l in record { line = s.line; live = s.live }; killed = retracted.killed; again = retracted.again })

pub gone_global_is_retracted : GoneGlobalIsRetracted
gone_global_is_retracted = record { disables = disables; removes = removes }
