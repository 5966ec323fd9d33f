-- What calls look for: an event of the display, the lowest killed client, where a handle is live, the handle that next gives, and what is sent.
use Rattle.std.proofs.Common.{◌≡◌, ℕ, suc, ◌+◌, ◌-◌, Bool, true, false, not, ltb, List, [], Some, None, Ok, Err, Option, Result, sym, refl, ap, ◌∙◌, subst, ⊎_elim, arith, zero, ◌≤◌, ◌∷◌, take}
use Rattle.std.proofs.lemmas.Bool.{cond-true, cond-false, cases_Bool, not-true}
use Rattle.places.specs.Places.{at}
use Rattle.map.specs.declared.Object.{Object}
use Rattle.map.specs.declared.ObjectData.{ObjectData}
use Rattle.map.specs.Map.{find_in, next_after}
use Rattle.map.specs.Named.{lookup_in}
use Rattle.protocol.specs.Lawful.{Lawful}
use Rattle.protocol.specs.Meaning.{event_in, event_of}
use Rattle.protocol.specs.Model.{MessageModel, RowModel}
use Rattle.protocol.specs.declared.refusal.Refusal.{Refusal}
use Rattle.protocol.specs.declared.refusal.Refusal.TheVariants.{Reserved, NoEvent, BadSignature, NoClient}
use Rattle.protocol.specs.Kinds.{agree}
use Rattle.backend.specs.declared.ids.ClientId.{ClientId}
use Rattle.backend.specs.declared.ids.ObjectId.{ObjectId}
use Rattle.backend.specs.declared.client.Client.{Client}
use Rattle.backend.specs.Ids.{local_of}
use Rattle.backend.specs.World.{Terms, World, is_live, client_at}
use Rattle.backend.specs.Checks.{unless, present, alive, the_object, Owned, the_owned, passing}
use Rattle.backend.specs.Sending.{SendArgument, Sendable, send_checks, send_arguments, in_version, reserved_event}
use Rattle.backend.specs.Calls.{living, handle_of, handle_if, next_handle, Found, lowest_killed, living_of}
use Rattle.accounts.proofs.Books.{Alive, some_is, not_vacant}
use Rattle.accounts.proofs.Seats.{handle_for, Waits}
use Rattle.accounts.proofs.Checked.{ok_is, never_ok, passed, required, the_object_lem, looked_up, HasOwner, the_owned_lem}
use Rattle.std.specs.List.{slice_get}
use Rattle.map.specs.declared.fault.InvalidId.{InvalidId}
use Rattle.laws.proofs.Lookup.{answers}
use Rattle.protocol.specs.CoreRows.{core_rows, display}

-- No event of the display ends it.

pub display_row : (rows : List RowModel) → Lawful rows → slice_get rows 1 ≡ Some display
display_row rows lawful = go rows lawful.begins
  where
    go : (xs : List RowModel) → take 4 xs ≡ core_rows → slice_get xs 1 ≡ Some display
    go [] e = let z : ◌≡◌ {A = ℕ} 0 1 = cc in absurd (omega arith)
    go (a ∷ []) e = let z : ◌≡◌ {A = ℕ} 0 1 = cc in absurd (omega arith)
    go (a ∷ b ∷ xs) e = let q : b ≡ display = cc in ap (λ (r : RowModel). Some r) q

pub display_stays : (rows : List RowModel) → Lawful rows → (opcode : ℕ) (m : MessageModel) → event_in rows 1 opcode ≡ Some m → m.destructor ≡ false
display_stays rows lawful opcode m e = go opcode (ap (λ (r : Option RowModel). event_of r opcode) (sym (display_row rows lawful)) ∙ e)
  where
    go : (i : ℕ) → slice_get display.events i ≡ Some m → m.destructor ≡ false
    go zero q = ap (λ (x : MessageModel). x.destructor) (sym (some_is _ m q))
    go (suc zero) q = ap (λ (x : MessageModel). x.destructor) (sym (some_is _ m q))
    go (suc (suc i)) q = absurd (not_vacant None m q refl)

-- The lowest killed client.

pub lowest_killed_lem : (p : ℕ) (ks : List (Option Client)) (f : Found) → lowest_killed p ks ≡ Some f → (p ≤ f.place) × (at ks (f.place - p) ≡ Some f.client) × (is_live f.client.state ≡ false)
lowest_killed_lem p [] f e = absurd (not_vacant None f e refl)
lowest_killed_lem p (None ∷ ks) f e = further p None ks f (lowest_killed_lem (p + 1) ks f e)
  where
    further : (p : ℕ) (k : Option Client) (ks : List (Option Client)) (f : Found) → (p + 1 ≤ f.place) × (at ks (f.place - (p + 1)) ≡ Some f.client) × (is_live f.client.state ≡ false)
        → (p ≤ f.place) × (at (k ∷ ks) (f.place - p) ≡ Some f.client) × (is_live f.client.state ≡ false)
    further p k ks f r =
        (omega (arith, r.0), ap (at (k ∷ ks)) (let z : f.place - p ≡ suc (f.place - (p + 1)) = omega (arith, r.0) in z) ∙ r.1, r.2)
lowest_killed_lem p (Some k ∷ ks) f e = go (λ q. lowest_killed_lem (p + 1) ks f q) (is_live k.state) refl
  where
    further : (p + 1 ≤ f.place) × (at ks (f.place - (p + 1)) ≡ Some f.client) × (is_live f.client.state ≡ false)
        → (p ≤ f.place) × (at (Some k ∷ ks) (f.place - p) ≡ Some f.client) × (is_live f.client.state ≡ false)
    further r = (omega (arith, r.0), ap (at (Some k ∷ ks)) (let z : f.place - p ≡ suc (f.place - (p + 1)) = omega (arith, r.0) in z) ∙ r.1, r.2)

    go : (lowest_killed (p + 1) ks ≡ Some f → (p + 1 ≤ f.place) × (at ks (f.place - (p + 1)) ≡ Some f.client) × (is_live f.client.state ≡ false))
        → (b : Bool) → is_live k.state ≡ b → (p ≤ f.place) × (at (Some k ∷ ks) (f.place - p) ≡ Some f.client) × (is_live f.client.state ≡ false)
    go again true l = further (again (sym (cond-true (is_live k.state) (lowest_killed (p + 1) ks) _ l) ∙ e))
    go again false d =
        let q : record { place = p; client = k } ≡ f = some_is (record { place = p; client = k }) f (sym (cond-false (is_live k.state) (lowest_killed (p + 1) ks) _ d) ∙ e) in
        let here : p ≡ f.place = ap (λ (x : Found). x.place) q in (
          omega (arith, here),
          ap (at (Some k ∷ ks)) (let z : f.place - p ≡ 0 = omega (arith, here) in z) ∙ ap (λ (x : Found). Some x.client) q,
          ap (λ (x : Found). is_live x.client.state) (sym q) ∙ d,
        )

-- Where a handle is live, and where not.

pub living_owner : (w : World) (x : ObjectId) (o : Owned) → living w x ≡ Some o → HasOwner w x o
living_owner w x o e = go (the_owned w x) refl e
  where
    go : (r : Result Owned Refusal) → the_owned w x ≡ r → living_of r ≡ Some o → HasOwner w x o
    go (Ok q) f s = subst (λ (y : Owned). HasOwner w x y) (some_is q o s) (the_owned_lem w x q f)
    go (Err q) f s = absurd (not_vacant None o s refl)

-- what waits for data and is not live is nothing
pub waits_nobody : (x : ObjectId) (w : World) → living w x ≡ None → (c : ClientId) (k : Client) → client_at w c ≡ Some k → Waits (Some x) c k → Waits None c k
waits_nobody x w none c k there wait id o l f a =
    let e : x ≡ handle_for c id o = some_is x (handle_for c id o) (wait id o l f a) in
    let found : lookup_in k.map (local_of (handle_for c id o)) ≡ Ok o = answers k.map (local_of (handle_for c id o)) o (record { live = f; serial_agrees = refl; row_agrees = refl }) in
    let owned : the_owned w (handle_for c id o) ≡ Ok (record { client = k; object = o }) =
    ap (λ (v : Option Client). passing (present v NoClient) (λ (q : Client). passing (the_object q (handle_for c id o)) (λ (y : Object ObjectData). Ok (record { client = q; object = y })))) there
    ∙ ap (λ (r : Result (Object ObjectData) InvalidId). passing (alive r) (λ (y : Object ObjectData). Ok (record { client = k; object = y }))) found in
    absurd (not_vacant (living w x) (record { client = k; object = o }) (ap (living w) e ∙ ap living_of owned) none)

-- the handle that next gives is that of a live object
pub next_alive : (c : ClientId) (a : Client) (i : ℕ) (x : ObjectId) → next_handle c a i ≡ Some x → (x.client ≡ c) × Alive x (Some a)
next_alive c a i x e = go (next_after a.map i) e
  where
    named_there : (id : ℕ) (o : Option (Object ObjectData)) → find_in a.map id ≡ o → handle_of c id o ≡ Some x → (x.client ≡ c) × Alive x (Some a)
    named_there id None f q = absurd (not_vacant None x q refl)
    named_there id (Some o) f q =
        let same : handle_for c id o ≡ x = some_is (handle_for c id o) x q in (
          ap (λ (y : ObjectId). y.client) (sym same),
          (o, ap (λ (y : ObjectId). find_in a.map y.id) (sym same) ∙ f, ap (λ (y : ObjectId). y.serial) same, ap (λ (y : ObjectId). y.row) same),
        )

    go : (v : Option ℕ) → handle_if c a v ≡ Some x → (x.client ≡ c) × Alive x (Some a)
    go None q = absurd (not_vacant None x q refl)
    go (Some id) q = named_there id (find_in a.map id) refl q

-- Sending.

module _ (t : Terms) where
  -- an event of a live client, which the checks let through
  pub record Sends (x : ObjectId) (opcode : ℕ) (a : Client) (s : Sendable) : Type 0 where
    pub lives : Alive x (Some a)
    pub not_delete : reserved_event x.row opcode ≡ false
    pub event : event_in t.rows x.row opcode ≡ Some s.message

  in_version_lem : (v : ℕ) (o : Option MessageModel) (m : MessageModel) → in_version v o ≡ Ok m → o ≡ Some m
  in_version_lem v None m e = absurd (never_ok NoEvent m e)
  in_version_lem v (Some q) m e =
      ⊎_elim
      (λ l. absurd (never_ok NoEvent m (sym (cond-true (ltb v q.since) (Err NoEvent) (Ok q) l) ∙ e)))
      (λ l. ap (λ (y : MessageModel). Some y) (ok_is q m (sym (cond-false (ltb v q.since) (Err NoEvent) (Ok q) l) ∙ e)))
      (cases_Bool (ltb v q.since))

  pub sends : (x : ObjectId) (opcode : ℕ) (as' : List SendArgument) (a : Client) (s : Sendable) → send_checks t.rows a x opcode as' ≡ Ok s → Sends x opcode a s
  sends x opcode as' a s e =
      let p = passed (the_object a x) _ s e in
      let q = passed (unless (not (reserved_event x.row opcode)) Reserved) _ s p.2 in
      let r = passed (in_version p.0.version (event_in t.rows x.row opcode)) _ s q.2 in
      let u = passed (unless (agree r.0.kinds as') BadSignature) _ s r.2 in
      let v = passed (send_arguments t.rows x.client a r.0.child r.0.rows r.0.kinds as') _ s u.2 in
      let same : record { object = p.0; message = r.0 } ≡ s = ok_is (record { object = p.0; message = r.0 }) s v.2 in
      record {
        lives = looked_up a x p.0 (the_object_lem a x p.0 p.1);
        not_delete = not-true (reserved_event x.row opcode) (required (not (reserved_event x.row opcode)) Reserved q.0 q.1);
        event = in_version_lem p.0.version (event_in t.rows x.row opcode) r.0 r.1 ∙ ap (λ (y : Sendable). Some y.message) same;
      }
