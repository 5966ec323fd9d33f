-- What every history keeps, of all clients, and how a change of one client is a change of the world.
use Rattle.std.proofs.Common.{◌≡◌, ℕ, zero, suc, ◌+◌, ◌^◌, ◌<◌, ◌≤◌, true, false, eqb, ◌≢◌, ◌⊎◌, List, [], ◌∷◌, ◌++◌, length, set, replicate, is_some, Some, None, Option, sym, refl, ap, ◌∙◌, subst, inl, inr, ⊎_elim, mod-eq_of_lt, arith}
use Rattle.std.proofs.lemmas.Bool.{cases_eq, cases_Bool, eq-eqb, ne_eqb, eqb-true, cond-true, cond-false, and_from, and_left, and_right, and_parts}
use Rattle.places.specs.Places.{at, first_vacant}
use Rattle.places.specs.Laws.{Counted}
use Rattle.places.proofs.Laws.{at_set_same, at_set_other}
use Rattle.places.proofs.Entries.{set_counted, put_counted, new_vacant}
use Rattle.places.proofs.Search.{occupied_within}
use Rattle.places.proofs.Vacant.{vacant_within}
use Rattle.map.specs.declared.DataMark.TheVariants.{Own, Awaited}
use Rattle.map.specs.declared.Object.{Object}
use Rattle.map.specs.declared.ObjectData.{ObjectData}
use Rattle.map.specs.Map.{empty_map, find_in, inserted}
use Rattle.wire.specs.Line.{Line}
use Rattle.backend.specs.declared.ids.ClientId.{ClientId}
use Rattle.backend.specs.declared.ids.ObjectId.{ObjectId}
use Rattle.backend.specs.declared.client.Client.{Client}
use Rattle.backend.specs.declared.registry.Registry.{Registry}
use Rattle.backend.specs.declared.ticket.Outstanding.{Outstanding}
use Rattle.backend.specs.declared.ticket.Outstanding.TheVariants.{Nothing, Plain, Making}
use Rattle.backend.specs.Ids.{same_client}
use Rattle.backend.specs.World.{World, is_live, named, client_at, following, with_place}
use Rattle.backend.specs.Acts.{Act, entered, opened, Deed, Seat, tagged, seated}
use Rattle.backend.specs.Calls.{display_object, display_id, newcomer, new_client_id, admit_world}
use Rattle.accounts.specs.Accounts.{acts_of, entry, nothing, enters}
use Rattle.accounts.proofs.Living.{living}
use Rattle.accounts.proofs.Books.{Alive, Books, Entry, later, same_handle, some_is, not_vacant, vacates_books}
use Rattle.accounts.proofs.Turns.{Turns, stands_so, moved}
use Rattle.accounts.proofs.Maps.{insert_entry}
use Rattle.accounts.proofs.Seats.{Good, Waits}
use Rattle.laws.proofs.Find.{empty_none}

-- Clients are told apart.

pub same_id : (c d : ClientId) → c.place ≡ d.place → c.serial ≡ d.serial → c ≡ d
same_id c d p q = ap (λ (i : ℕ). record { place = i; serial = c.serial }) p ∙ ap (λ (s : ℕ). record { place = d.place; serial = s }) q

pub same_client_self : (c : ClientId) → same_client c c ≡ true
same_client_self c = and_from (eqb c.place c.place) (eqb c.serial c.serial) (eq-eqb c.place c.place refl) (eq-eqb c.serial c.serial refl)

pub same_client_is : (c d : ClientId) → same_client c d ≡ true → c ≡ d
same_client_is c d t =
    let p = and_parts (eqb c.place d.place) (eqb c.serial d.serial) t in same_id c d (eqb-true c.place d.place p.0) (eqb-true c.serial d.serial p.1)

pub cases_client : (c d : ClientId) → (c ≡ d) ⊎ (c ≢ d)
cases_client c d =
    ⊎_elim
    (λ p. ⊎_elim (λ q. inl (same_id c d p q)) (λ q. inr (λ e. q (ap (λ (x : ClientId). x.serial) e))) (cases_eq c.serial d.serial))
    (λ p. inr (λ e. p (ap (λ (x : ClientId). x.place) e)))
    (cases_eq c.place d.place)

pub other_client : (c d : ClientId) → c ≢ d → same_client c d ≡ false
other_client c d ne =
    ⊎_elim
    (λ p. and_right (eqb c.place d.place) (eqb c.serial d.serial) (ne_eqb c.serial d.serial (λ q. ne (same_id c d p q))))
    (λ p. and_left (eqb c.place d.place) (eqb c.serial d.serial) (ne_eqb c.place d.place p))
    (cases_eq c.place d.place)

-- What was done to a client, and to another.

pub acts_own : (c : ClientId) (as' : List Act) (ds : List Deed) → acts_of c (tagged c as' ++ ds) ≡ as' ++ acts_of c ds
acts_own c [] ds = refl
acts_own c (a ∷ as') ds =
    cond-true (same_client c c) (a ∷ acts_of c (tagged c as' ++ ds)) (acts_of c (tagged c as' ++ ds)) (same_client_self c) ∙ ap (λ (bs : List Act). a ∷ bs) (acts_own c as' ds)

pub acts_other : (c d : ClientId) (as' : List Act) (ds : List Deed) → d ≢ c → acts_of d (tagged c as' ++ ds) ≡ acts_of d ds
acts_other c d [] ds ne = refl
acts_other c d (a ∷ as') ds ne =
    cond-false (same_client d c) (a ∷ acts_of d (tagged c as' ++ ds)) (acts_of d (tagged c as' ++ ds)) (other_client d c ne) ∙ acts_other c d as' ds ne

-- The clients of a world.

pub named_is : (c : ClientId) (o : Option Client) (k : Client) → named c o ≡ Some k → (o ≡ Some k) × (k.serial ≡ c.serial)
named_is c None k e = absurd (not_vacant None k e refl)
named_is c (Some q) k e =
    ⊎_elim
    (λ t. let s : Some q ≡ Some k = sym (cond-true (eqb q.serial c.serial) (Some q) None t) ∙ e in
    (s, ap (λ (r : Client). r.serial) (sym (some_is q k s)) ∙ eqb-true q.serial c.serial t))
    (λ f. absurd (not_vacant None k (sym (cond-false (eqb q.serial c.serial) (Some q) None f) ∙ e) refl))
    (cases_Bool (eqb q.serial c.serial))

pub named_same : (c : ClientId) (k : Client) → k.serial ≡ c.serial → named c (Some k) ≡ Some k
named_same c k e = cond-true (eqb k.serial c.serial) (Some k) None (eq-eqb k.serial c.serial e)

named_not : (c : ClientId) (k : Client) → k.serial ≢ c.serial → named c (Some k) ≡ None
named_not c k e = cond-false (eqb k.serial c.serial) (Some k) None (ne_eqb k.serial c.serial e)

-- another content of a place whose client is c
module _ (w : World) (c : ClientId) (k : Client) (there : client_at w c ≡ Some k) where
  abbrev places : List (Option Client)
  places = w.engine.store.clients.places

  held : at places c.place ≡ Some k
  held = (named_is c (at places c.place) k there).0

  within : c.place < length places
  within = occupied_within places c.place (ap is_some held)

  pub serial_agrees : k.serial ≡ c.serial
  serial_agrees = (named_is c (at places c.place) k there).1

  pub client_same : (q : Client) → q.serial ≡ k.serial → client_at (with_place c.place (Some q) w) c ≡ Some q
  client_same q kept = ap (named c) (at_set_same places c.place (Some q) within) ∙ named_same c q (kept ∙ serial_agrees)

  pub client_gone : client_at (with_place c.place None w) c ≡ None
  client_gone = ap (named c) (at_set_same places c.place None within)

  -- whatever stands there, no other handle names it
  other_place : (v : Option Client) → ((d : ClientId) → d.serial ≢ c.serial → named d v ≡ None) → (d : ClientId) → d ≢ c → client_at (with_place c.place v w) d ≡ client_at w d
  other_place v none d ne =
      ⊎_elim
      (λ p.
      let sn : d.serial ≢ c.serial = λ s. ne (same_id d c p s) in
      ap (λ (i : ℕ). named d (at (set places c.place v) i)) p
      ∙ (ap (named d) (at_set_same places c.place v within)
      ∙ (none d sn ∙ sym (ap (λ (i : ℕ). named d (at places i)) p ∙ (ap (named d) held ∙ named_not d k (λ s. sn (sym s ∙ serial_agrees)))))))
      (λ p. ap (named d) (at_set_other places c.place d.place v p))
      (cases_eq d.place c.place)

  pub client_other : (q : Client) → q.serial ≡ k.serial → (d : ClientId) → d ≢ c → client_at (with_place c.place (Some q) w) d ≡ client_at w d
  client_other q kept = other_place (Some q) (λ d sn. named_not d q (λ s. sn (sym s ∙ (kept ∙ serial_agrees))))

  pub gone_other : (d : ClientId) → d ≢ c → client_at (with_place c.place None w) d ≡ client_at w d
  gone_other = other_place None (λ d sn. refl)

  place_counted : (v : Option Client) → Counted places w.engine.store.clients.len → Counted (set places c.place v) w.engine.store.clients.len
  place_counted v = put_counted places w.engine.store.clients.len c.place v (ap is_some held)

-- The roll and the ticket have nothing to do with a display.

abbrev pub Roll : List (Option ObjectId) → Type 0
Roll [] = Unit {0}
Roll (None ∷ xs) = Roll xs
Roll (Some x ∷ xs) = (x.id ≢ 1) × Roll xs

abbrev pub Sender : Outstanding → Type 0
Sender Nothing = Unit {0}
Sender (Plain o) = o.sender.id ≢ 1
Sender (Making m) = m.origin.sender.id ≢ 1

pub record Kept (v : Option ObjectId) (n : ℕ) (ds : List Deed) (w : World) : Type 0 where
  pub few : w.engine.store.last_serial ≤ n
  pub clients_old : (c : ClientId) (k : Client) → client_at w c ≡ Some k → c.serial ≤ w.engine.store.last_serial
  pub untouched : (c : ClientId) → w.engine.store.last_serial < c.serial → acts_of c ds ≡ []
  pub counted : Counted w.engine.store.clients.places w.engine.store.clients.len
  pub books : (c : ClientId) → Books c n (acts_of c ds) (client_at w c)
  pub turns : (c : ClientId) → Turns (acts_of c ds) (client_at w c)
  pub waits : (c : ClientId) (k : Client) → client_at w c ≡ Some k → Waits v c k
  pub roll : Roll w.engine.registry.roll
  pub sender : Sender w.engine.outstanding

-- what is neither of the clients nor of the roll, nor the ticket, is no part of it
pub apart_from : {v : Option ObjectId} {n : ℕ} {ds : List Deed} {w : World} (lines : ℕ → Line) (r : Registry) (o : Outstanding) → Roll r.roll → Sender o → Kept v n ds w
    → Kept v n ds (record { engine = record { store = w.engine.store; registry = r; outstanding = o }; lines = lines })
apart_from lines r o on_roll by k = record {
  few = k.few;
  clients_old = k.clients_old;
  untouched = k.untouched;
  counted = k.counted;
  books = k.books;
  turns = k.turns;
  waits = k.waits;
  roll = on_roll;
  sender = by;
}

pub later_kept : {v : Option ObjectId} {n m : ℕ} {ds : List Deed} {w : World} → n ≤ m → Kept v n ds w → Kept v m ds w
later_kept le k = record {
  few = omega (arith, k.few);
  clients_old = k.clients_old;
  untouched = k.untouched;
  counted = k.counted;
  books = λ c. later le (k.books c);
  turns = k.turns;
  waits = k.waits;
  roll = k.roll;
  sender = k.sender;
}

-- One client, which is there, is concerned.
module _ {v : Option ObjectId} {n : ℕ} {ds : List Deed} {w : World} (k : Kept v n ds w) (c : ClientId) (a : Client) (there : client_at w c ≡ Some a) where
  touches : (m : ℕ) → n ≤ m → (u : Option ObjectId) → ((d : ClientId) (q : Client) → d ≢ c → Waits v d q → Waits u d q)
      → (b : Option Client) (z : World) → z.engine.store.last_serial ≡ w.engine.store.last_serial → Counted z.engine.store.clients.places z.engine.store.clients.len
      → client_at z c ≡ b → ((d : ClientId) → d ≢ c → client_at z d ≡ client_at w d) → Roll z.engine.registry.roll → Sender z.engine.outstanding
      → (as' : List Act) → Books c m (as' ++ acts_of c ds) b → Turns (as' ++ acts_of c ds) b → ((q : Client) → b ≡ Some q → Waits u c q)
      → Kept u m (tagged c as' ++ ds) z
  touches m le u carry b z last_same full at_c at_d on_roll by as' own turn wait = record {
    few = omega (arith, k.few, last_same);
    clients_old = λ d q p. ⊎_elim
        (λ e. omega (arith, k.clients_old c a there, last_same, ap (λ (x : ClientId). x.serial) e))
        (λ ne. omega (arith, k.clients_old d q (sym (at_d d ne) ∙ p), last_same)) (cases_client d c);
    untouched = λ d lt. acts_other c d as' ds (λ e. omega (arith, k.clients_old c a there, last_same, ap (λ (x : ClientId). x.serial) e, lt))
        ∙ k.untouched d (omega (arith, last_same, lt));
    counted = full;
    books = λ d. ⊎_elim
        (λ e. subst (λ (x : ClientId). Books x m (acts_of x (tagged c as' ++ ds)) (client_at z x)) (sym e)
        (subst (λ (o : Option Client). Books c m (acts_of c (tagged c as' ++ ds)) o) (sym at_c)
        (subst (λ (bs : List Act). Books c m bs b) (sym (acts_own c as' ds)) own)))
        (λ ne. subst (λ (o : Option Client). Books d m (acts_of d (tagged c as' ++ ds)) o) (sym (at_d d ne))
        (subst (λ (bs : List Act). Books d m bs (client_at w d)) (sym (acts_other c d as' ds ne)) (later le (k.books d)))) (cases_client d c);
    turns = λ d. ⊎_elim
        (λ e. subst (λ (x : ClientId). Turns (acts_of x (tagged c as' ++ ds)) (client_at z x)) (sym e)
        (subst (λ (o : Option Client). Turns (acts_of c (tagged c as' ++ ds)) o) (sym at_c)
        (subst (λ (bs : List Act). Turns bs b) (sym (acts_own c as' ds)) turn)))
        (λ ne. subst (λ (o : Option Client). Turns (acts_of d (tagged c as' ++ ds)) o) (sym (at_d d ne))
        (subst (λ (bs : List Act). Turns bs (client_at w d)) (sym (acts_other c d as' ds ne)) (k.turns d))) (cases_client d c);
    waits = λ d q p. ⊎_elim
        (λ e. subst (λ (x : ClientId). Waits u x q) (sym e) (wait q (sym at_c ∙ (ap (client_at z) (sym e) ∙ p))))
        (λ ne. carry d q ne (k.waits d q (sym (at_d d ne) ∙ p))) (cases_client d c);
    roll = on_roll;
    sender = by;
  }

  -- the client in its place, as a call finds it
  pub seat_good : (l : Line) → Good v c n (acts_of c ds) (record { client = a; line = l; acts = [] })
  seat_good l = record {
    books = subst (λ (o : Option Client). Books c n (acts_of c ds) o) there (k.books c);
    turns = subst (λ (o : Option Client). Turns (acts_of c ds) o) there (k.turns c);
    waits = k.waits c a there;
    agrees = serial_agrees w c a there;
  }

  -- the world with what was done to it there
  pub resumed_kept : (m : ℕ) → n ≤ m → (u : Option ObjectId) → ((d : ClientId) (q : Client) → d ≢ c → Waits v d q → Waits u d q)
      → (s : Seat) → Good u c m (acts_of c ds) s → Kept u m (tagged c s.acts ++ ds) (seated c s w)
  resumed_kept m le u carry s g =
      let same : s.client.serial ≡ a.serial = g.agrees ∙ sym (serial_agrees w c a there) in
      touches m le u carry (Some s.client) (seated c s w) refl (place_counted w c a there (Some s.client) k.counted)
      (client_same w c a there s.client same) (client_other w c a there s.client same) k.roll k.sender s.acts g.books g.turns
      (λ q e. subst (λ (y : Client). Waits u c y) (some_is s.client q e) g.waits)

  -- the client goes
  pub vacated_kept : living a.map ≡ 0 → ((x : ObjectId) → Alive x (Some a) → ⊥) → Kept v n ds (with_place c.place None w)
  vacated_kept z dead =
      let g = seat_good (w.lines c.place) in
      touches n (omega arith) v (λ d q ne f. f) None (with_place c.place None w) refl (place_counted w c a there None k.counted)
      (client_gone w c a there) (gone_other w c a there) k.roll k.sender [] (vacates_books c n (acts_of c ds) a g.books z dead)
      (λ u i below. stands_so (find_in a.map i) (is_live a.state) _ (g.turns u i below))
      (λ q e. absurd (not_vacant None q e refl))

-- Admission.

display_entry : Entry (empty_map {D = ObjectData}) 1 display_object (inserted empty_map 1 display_object)
display_entry = insert_entry empty_map 1 display_object refl

newcomer_found : (id : ℕ) → id ≢ 1 → find_in (inserted empty_map 1 display_object) id ≡ None
newcomer_found id ne = display_entry.others id ne ∙ empty_none id

module _ (c : ClientId) (n s d : ℕ) where
  abbrev new : Client
  new = newcomer s d

  newcomer_books : Books c n (entered (display_id c) ∷ opened ∷ []) (Some new)
  newcomer_books = record {
    own = λ x q. ⊎_elim (λ e. ap (λ (y : ObjectId). y.client) e) (λ e. absurd e) q;
    apart = ((λ q. q), tt);
    entered_first = λ x q. absurd q;
    told_once = tt;
    found = λ x own l. ⊎_elim
        (λ q. let so : l.0 ≡ display_object = some_is l.0 display_object (sym l.1 ∙ (ap (find_in new.map) q ∙ display_entry.there)) in
        (inl (same_handle x (display_id c) own q (sym l.2 ∙ ap (λ (y : Object ObjectData). y.«data».serial) so) (sym l.3 ∙ ap (λ (y : Object ObjectData). y.row) so)), λ t. t))
        (λ q. absurd (not_vacant (find_in new.map x.id) l.0 l.1 (newcomer_found x.id q))) (cases_eq x.id 1);
    finds = λ x q u. ⊎_elim (λ e. subst (λ (y : ObjectId). Alive y (Some new)) (sym e) (display_object, display_entry.there, refl, refl)) (λ e. absurd e) q;
    sums = refl;
    state = record {
      sized = (refl, refl);
      used = display_entry.keeps_use (λ i le. empty_at 64 i, λ i le. empty_at 32 i);
      few = omega arith;
      old = λ x q. ⊎_elim (λ e. omega (arith, ap (λ (y : ObjectId). y.serial) e)) (λ e. absurd e) q;
      display_row = λ o f. ap (λ (y : Object ObjectData). y.row) (some_is o display_object (sym f ∙ display_entry.there));
      display_there = λ l. ap is_some display_entry.there;
    };
  }
    where
      empty_at : (m i : ℕ) → at (replicate {A = Option (Object ObjectData)} m None) i ≡ None
      empty_at zero i = refl
      empty_at (suc m) zero = refl
      empty_at (suc m) (suc i) = empty_at m i

  newcomer_turns : Turns (entered (display_id c) ∷ opened ∷ []) (Some new)
  newcomer_turns u i below =
      ⊎_elim
      (λ q. moved true (ap (find_in new.map) q ∙ display_entry.there) (cond-true (eqb 1 i) (entry ∷ []) [] (eq-eqb 1 i (sym q))) (enters nothing))
      (λ q. moved true (newcomer_found i q) (cond-false (eqb 1 i) (entry ∷ []) [] (ne_eqb 1 i (λ r. q (sym r)))) nothing)
      (cases_eq i 1)

  newcomer_waits : (v : Option ObjectId) → Waits v c new
  newcomer_waits v id o l f a =
      ⊎_elim
      (λ q. let so : o ≡ display_object = some_is o display_object (sym f ∙ (ap (find_in new.map) q ∙ display_entry.there)) in
      let m : Own ≡ Awaited = sym (ap (λ (y : Object ObjectData). y.«data».mark) so) ∙ a in let z : ◌≡◌ {A = ℕ} 0 1 = cc in absurd (omega arith))
      (λ q. absurd (not_vacant (find_in new.map id) o f (newcomer_found id q))) (cases_eq id 1)

module _ {v : Option ObjectId} {n : ℕ} {ds : List Deed} {w : World} (k : Kept v n ds w) (h : n < 4294967295) (d p : ℕ)
    (vacant : first_vacant w.engine.store.clients.places w.engine.store.clients.len ≡ Some p) where
  abbrev store_places : List (Option Client)
  store_places = w.engine.store.clients.places

  abbrev c : ClientId
  c = new_client_id p w

  abbrev serial : ℕ
  serial = following w.engine.store.last_serial

  serial_is : serial ≡ w.engine.store.last_serial + 1
  serial_is = let s : w.engine.store.last_serial + 1 < 2 ^ 32 = omega (arith, k.few) in mod-eq_of_lt s

  inside : p < length store_places
  inside = vacant_within store_places w.engine.store.clients.len p vacant

  was_vacant : at store_places p ≡ None
  was_vacant = new_vacant store_places w.engine.store.clients.len p k.counted vacant

  at_c : client_at (admit_world d p w) c ≡ Some (newcomer serial d)
  at_c = ap (named c) (at_set_same store_places p (Some (newcomer serial d)) inside) ∙ named_same c (newcomer serial d) refl

  at_d : (x : ClientId) → x ≢ c → client_at (admit_world d p w) x ≡ client_at w x
  at_d x ne =
      ⊎_elim
      (λ q. ap (λ (i : ℕ). named x (at (set store_places p (Some (newcomer serial d))) i)) q
      ∙ (ap (named x) (at_set_same store_places p (Some (newcomer serial d)) inside)
      ∙ (named_not x (newcomer serial d) (λ s. ne (same_id x c q (sym s)))
      ∙ sym (ap (λ (i : ℕ). named x (at store_places i)) q ∙ ap (named x) was_vacant))))
      (λ q. ap (named x) (at_set_other store_places p x.place (Some (newcomer serial d)) q))
      (cases_eq x.place p)

  abbrev acts : List Act
  acts = entered (display_id c) ∷ opened ∷ []

  clean : acts_of c (tagged c acts ++ ds) ≡ acts
  clean = acts_own c acts ds ∙ ap (λ (bs : List Act). entered (display_id c) ∷ opened ∷ bs) (k.untouched c (omega (arith, serial_is)))

  pub admits : Kept v (suc n) (tagged c acts ++ ds) (admit_world d p w)
  admits = record {
    few = omega (arith, k.few, serial_is);
    clients_old = λ x q e. ⊎_elim
        (λ s. omega (arith, ap (λ (y : ClientId). y.serial) s))
        (λ ne. omega (arith, k.clients_old x q (sym (at_d x ne) ∙ e), serial_is)) (cases_client x c);
    untouched = λ x lt. acts_other c x acts ds (λ e. omega (arith, ap (λ (y : ClientId). y.serial) e, lt)) ∙ k.untouched x (omega (arith, serial_is, lt));
    counted = set_counted store_places w.engine.store.clients.len p (newcomer serial d) k.counted;
    books = λ x. ⊎_elim
        (λ e. subst (λ (y : ClientId). Books y (suc n) (acts_of y (tagged c acts ++ ds)) (client_at (admit_world d p w) y)) (sym e)
        (subst (λ (o : Option Client). Books c (suc n) (acts_of c (tagged c acts ++ ds)) o) (sym at_c)
        (subst (λ (bs : List Act). Books c (suc n) bs (Some (newcomer serial d))) (sym clean) (newcomer_books c (suc n) serial d))))
        (λ ne. subst (λ (o : Option Client). Books x (suc n) (acts_of x (tagged c acts ++ ds)) o) (sym (at_d x ne))
        (subst (λ (bs : List Act). Books x (suc n) bs (client_at w x)) (sym (acts_other c x acts ds ne)) (later (omega arith) (k.books x)))) (cases_client x c);
    turns = λ x. ⊎_elim
        (λ e. subst (λ (y : ClientId). Turns (acts_of y (tagged c acts ++ ds)) (client_at (admit_world d p w) y)) (sym e)
        (subst (λ (o : Option Client). Turns (acts_of c (tagged c acts ++ ds)) o) (sym at_c)
        (subst (λ (bs : List Act). Turns bs (Some (newcomer serial d))) (sym clean) (newcomer_turns c (suc n) serial d))))
        (λ ne. subst (λ (o : Option Client). Turns (acts_of x (tagged c acts ++ ds)) o) (sym (at_d x ne))
        (subst (λ (bs : List Act). Turns bs (client_at w x)) (sym (acts_other c x acts ds ne)) (k.turns x))) (cases_client x c);
    waits = λ x q e. ⊎_elim
        (λ s. subst (λ (y : ClientId). Waits v y q) (sym s)
        (subst (λ (y : Client). Waits v c y) (some_is (newcomer serial d) q (sym at_c ∙ (ap (client_at (admit_world d p w)) (sym s) ∙ e))) (newcomer_waits c (suc n) serial d v)))
        (λ ne. k.waits x q (sym (at_d x ne) ∙ e)) (cases_client x c);
    roll = k.roll;
    sender = k.sender;
  }
