-- The accounts of a history, from what is kept along it.
use Rattle.std.proofs.Common.{◌≡◌, ℕ, suc, ◌+◌, ◌≤◌, true, ◌⊎◌, List, [], ◌∷◌, length, is_some, Some, None, Ok, Err, Option, Result, sym, refl, ap, ◌∙◌, subst, inl, inr, ⊎_elim, arith}
use Rattle.std.proofs.lemmas.Bool.{cases_Bool, false≢true}
use Rattle.protocol.specs.Lawful.{Lawful}
use Rattle.protocol.specs.declared.refusal.Refusal.{Refusal}
use Rattle.protocol.specs.declared.refusal.Refusal.TheVariants.{NoClient}
use Rattle.map.specs.declared.DataMark.TheVariants.{Awaited}
use Rattle.map.specs.declared.Object.{Object}
use Rattle.map.specs.declared.ObjectData.{ObjectData}
use Rattle.map.specs.Map.{find_in}
use Rattle.laws.specs.Sizes.{Sized}
use Rattle.laws.specs.NextLaws as on_map
use Rattle.laws.proofs.Next.{live}
use Rattle.laws.proofs.Walk.{walk_ends}
use Rattle.laws.proofs.Lookup.{answered, answers}
use Rattle.backend.specs.declared.ids.ClientId.{ClientId}
use Rattle.backend.specs.declared.ids.ObjectId.{ObjectId}
use Rattle.backend.specs.declared.client.Client.{Client}
use Rattle.backend.specs.declared.answers.ObjectInfo.{ObjectInfo}
use Rattle.backend.specs.Ids.{local_of}
use Rattle.backend.specs.World.{Terms, World, client_at, is_live}
use Rattle.backend.specs.Checks.{passing, present, alive, the_object, Owned, the_owned}
use Rattle.backend.specs.Calls.{info_of, handle_of, handle_if, next_handle}
use Rattle.backend.specs.Perform.{Answer, look, next, looked, found_next, told as told_by, perform}
use Rattle.accounts.specs.Histories.{History, Leads, calls, turn, deeds}
use Rattle.accounts.specs.Shown.{ticket_of, child_of, entries, ends}
use Rattle.accounts.specs.Accounts.{Has, Apart, of, Looks, Walk, no_client, no_more, goes_on, acts_of, Side, entries_in, sides, Alternates, Agree, Found, Paired, none_out, goes_out, comes_back, handed_out, taken_back, out_now, Killed}
use Rattle.accounts.specs.Whole.{Accounts, Whole, most, Promised}
use Rattle.accounts.proofs.Living.{walk_living}
use Rattle.accounts.proofs.Books.{told, Alive, Books, living_in, same_handle}
use Rattle.accounts.proofs.Turns.{Standing, stands_so}
use Rattle.accounts.proofs.Seats.{handle_for}
use Rattle.accounts.proofs.Kept.{Kept}
use Rattle.accounts.proofs.Checked.{looked_up, the_owned_lem}
use Rattle.accounts.proofs.Shown.{entries_done, ends_done, entries_of, ends_of, has_of, of_has}
use Rattle.accounts.proofs.Along.{holds}

-- What next finds in turn, of a client that is there.
module _ (t : Terms) (w : World) (c : ClientId) (k : Client) (there : client_at w c ≡ Some k) (z : Sized k.map) where
  next_is : (i : ℕ) → (perform t (next c i) w).answer ≡ found_next (Ok (next_handle c k i))
  next_is i = ap (λ (v : Option Client). (told_by found_next (present v NoClient) w (λ (q : Client). next_handle c q i)).answer) there

  Objects : ℕ → List ℕ → Type 0
  Objects i ks = (xs : List ObjectId) × Walk t w c i xs × (length xs ≡ length ks)

  found_at : (i j : ℕ) (ks : List ℕ) (v : Option (Object ObjectData)) → (perform t (next c i) w).answer ≡ found_next (Ok (handle_of c j v)) → is_some v ≡ true → (xs : List ObjectId) × Walk t w c j xs × (length xs ≡ length ks)
      → (xs : List ObjectId) × Walk t w c i xs × (length xs ≡ length (j ∷ ks))
  found_at i j ks None e l r = absurd (false≢true l)
  found_at i j ks (Some o) e l r = (handle_for c j o ∷ r.0, goes_on e r.1, ap suc r.2)

  pub objects : (i : ℕ) (ks : List ℕ) → on_map.Walk k.map i ks → (xs : List ObjectId) × Walk t w c i xs × (length xs ≡ length ks)
  objects i [] (on_map.ends e) = ([], no_more (next_is i ∙ ap (λ (v : Option ℕ). found_next (Ok (handle_if c k v))) e), refl)
  objects i (j ∷ ks) (on_map.goes e more) =
      found_at i j ks (find_in k.map j) (next_is i ∙ ap (λ (v : Option ℕ). found_next (Ok (handle_if c k v))) e) (live k.map i j z e) (objects j ks more)

-- What a look finds.

look_of : (t : Terms) (w : World) (x : ObjectId) (info : ObjectInfo) (r : Result Owned Refusal) → the_owned w x ≡ r → (told_by looked r w info_of).answer ≡ looked (Ok info)
    → (at : Owned) × (the_owned w x ≡ Ok at) × (info_of at ≡ info)
look_of t w x info (Ok at) e q = (at, e, let s : info_of at ≡ info = cc in s)
look_of t w x info (Err f) e q = let y : ◌≡◌ {A = ℕ} 0 1 = cc in absurd (omega arith)

alive_looks : (t : Terms) (w : World) (x : ObjectId) (v : Option Client) → client_at w x.client ≡ v → Alive x v → Looks t w x
alive_looks t w x None e l = absurd l
alive_looks t w x (Some k) e l =
    let at : Owned = record { client = k; object = l.0 } in
    let named = answers k.map (local_of x) l.0 (record { live = l.1; serial_agrees = l.2; row_agrees = l.3 }) in
    let owned : the_owned w x ≡ Ok at
    = ap (λ (u : Option Client). passing (present u NoClient) (λ (q : Client). passing (the_object q x) (λ (o : Object ObjectData). Ok (record { client = q; object = o })))) e
    ∙ ap (λ (r : _). passing (alive r) (λ (o : Object ObjectData). Ok (record { client = k; object = o }))) named in
    (info_of at, ap (λ (r : Result Owned Refusal). (told_by looked r w info_of).answer) owned)

-- Tickets are counted as they are paired.

counted_of : {ps : _} {o : _} → Paired ps o → handed_out ps ≡ taken_back ps + out_now o
counted_of none_out = refl
counted_of (goes_out t p) = omega (arith, counted_of p)
counted_of (comes_back t p) = omega (arith, counted_of p)

module _ (t : Terms) (lawful : Lawful t.rows) {h : History} {w : World} (r : Leads t h w) (le : length h ≤ most) where
  kept : Kept (child_of (ticket_of w.engine.outstanding)) (length h) (deeds h) w
  kept = (holds t lawful r le).kept

  abbrev books : (c : ClientId) → Books c (length h) (acts_of c (deeds h)) (client_at w c)
  books c = kept.books c

  entries_here : (c : ClientId) → of c (entries h) ≡ entries_in (acts_of c (deeds h))
  entries_here c = ap (of c) (entries_done t lawful r) ∙ entries_of c (deeds h) (λ d x q. (books d).own x q)

  ends_here : (c : ClientId) → of c (ends h) ≡ told (acts_of c (deeds h))
  ends_here c = ap (of c) (ends_done t lawful r) ∙ ends_of c (deeds h) (λ d x q. (books d).own x ((books d).entered_first x q))

  sums_at : (c : ClientId) (v : Option Client) → client_at w c ≡ v → (xs : List ObjectId) × Walk t w c 0 xs × (length (of c (entries h)) ≡ length xs + length (of c (ends h)))
  sums_at c None e =
      let a = ap length (entries_here c) in
      let d = ap living_in e in
      let g = ap length (ends_here c) in
      ([], no_client (ap (λ (v : Option Client). (told_by found_next (present v NoClient) w (λ (q : Client). next_handle c q 0)).answer) e), omega (arith, a, (books c).sums, d, g))
  sums_at c (Some k) e =
      let z = (subst (λ (v : Option Client). Books c (length h) (acts_of c (deeds h)) v) e (books c)).state.sized in
      let ks = walk_ends k.map z in
      let xs = objects t w c k e z 0 ks.0 ks.1 in
      let n = xs.2 ∙ walk_living k.map z ks.0 ks.1 in
      let a = ap length (entries_here c) in
      let d = ap living_in e in
      let g = ap length (ends_here c) in
      (xs.0, xs.1, omega (arith, a, (books c).sums, d, n, g))

  standing : (i : ℕ) (v : Option Client) (s : List Side) → Standing v i s → (following : Side) × Alternates s following
  standing i None s a = a
  standing i (Some k) s a = stands_so (find_in k.map i) (is_live k.state) s a

  agree : (c : ClientId) → Agree t h w c
  agree c = record {
    sums = sums_at c (client_at w c) refl;
    apart = subst Apart (sym (entries_here c)) (books c).apart;
    told_once = subst Apart (sym (ends_here c)) (books c).told_once;
    alternate = λ u i below. standing i (client_at w c) (sides i (acts_of c (deeds h))) (kept.turns c u i below);
  }

  looks_at : (x : ObjectId) (info : ObjectInfo) → (perform t (look x) w).answer ≡ looked (Ok info) → (at : Owned) × (the_owned w x ≡ Ok at) × (info_of at ≡ info)
  looks_at x info e = look_of t w x info (the_owned w x) refl e

  alive_at : (x : ObjectId) → Looks t w x → Alive x (client_at w x.client)
  alive_at x l =
      let at = looks_at x l.0 l.1 in
      let own = the_owned_lem w x at.0 at.1 in subst (Alive x) (sym own.there) (looked_up at.0.client x at.0.object own.named)

  found : Found t h w
  found = record {
    looks_entered = λ x l.
        let f = (books x.client).found x refl (alive_at x l) in
        (of_has x.client x (entries h) (subst (Has x) (sym (entries_here x.client)) f.0), λ q. f.1 (subst (Has x) (ends_here x.client) (has_of x (ends h) q)));
    entered_looks = λ x q u.
        alive_looks t w x (client_at w x.client) refl
        ((books x.client).finds x (subst (Has x) (entries_here x.client) (has_of x (entries h) q))
        (λ s. u (of_has x.client x (ends h) (subst (Has x) (sym (ends_here x.client)) s))));
  }

  awaited : (x : ObjectId) (info : ObjectInfo) → (perform t (look x) w).answer ≡ looked (Ok info) → info.mark ≡ Awaited → (child_of (ticket_of w.engine.outstanding) ≡ Some x) ⊎ Killed w x.client
  awaited x info e m =
      let at = looks_at x info e in
      let own = the_owned_lem w x at.0 at.1 in
      let l = answered at.0.client.map (local_of x) at.0.object own.named in
      let here = handle_for x.client x.id at.0.object in
      ⊎_elim
      (λ lives. inl (kept.waits x.client at.0.client own.there x.id at.0.object lives l.live (ap (λ (i : ObjectInfo). i.mark) at.2 ∙ m) ∙ ap (λ (y : ObjectId). Some y) (same_handle here x refl refl l.serial_agrees l.row_agrees)))
      (λ dead. inr (at.0.client, own.there, dead))
      (cases_Bool (is_live at.0.client.state))

  pub accounts : Accounts t h w
  accounts = record {
    clients = agree;
    objects = found;
    tickets = record { paired = (holds t lawful r le).paired; counted = counted_of (holds t lawful r le).paired; awaited = awaited };
  }

pub whole : Whole
whole t lawful h w r le = accounts t lawful r le

-- Worlds with the same engine and the same lines are the same.
same_world : (u v : World) → v.engine ≡ u.engine → ((p : ℕ) → v.lines p ≡ u.lines p) → u ≡ v
same_world u v e l = λ i. record { engine = sym e i; lines = λ p. sym (l p) i }

pub promised : Promised
promised t lawful c w a v is_answer is_engine are_lines = record {
  answers = is_answer;
  leaves_engine = is_engine;
  leaves_lines = are_lines;
  agrees = λ h few r.
      let after : Accounts t (turn t c w ∷ h) (perform t c w).run.world = accounts t lawful (calls c r) (omega arith) in
      subst (λ (b : Answer). Accounts t (record { call = c; answer = b; deeds = (perform t c w).run.deeds } ∷ h) v) (sym is_answer)
      (subst (λ (u : World). Accounts t (turn t c w ∷ h) u) (same_world (perform t c w).run.world v is_engine are_lines) after);
}
