-- The books of one client, and that each part of a call keeps them.
use Rattle.std.proofs.Common.{◌≡◌, ℕ, suc, ◌+◌, ◌^◌, ◌<◌, ◌≤◌, true, false, ◌≢◌, ◌⊎◌, List, [], ◌∷◌, length, is_some, Some, None, Option, sym, refl, ap, ◌∙◌, subst, inl, inr, ⊎_elim, mod-eq_of_lt, arith}
use Rattle.std.proofs.lemmas.Bool.{cases_eq, both_ways}
use Rattle.map.specs.declared.Object.{Object}
use Rattle.map.specs.declared.ObjectData.{ObjectData}
use Rattle.map.specs.declared.ObjectMap.{ObjectMap}
use Rattle.map.specs.Map.{find_in}
use Rattle.laws.specs.Sizes.{Sized, Used}
use Rattle.backend.specs.declared.ids.ClientId.{ClientId}
use Rattle.backend.specs.declared.ids.ObjectId.{ObjectId}
use Rattle.backend.specs.declared.client.Client.{Client}
use Rattle.backend.specs.declared.client.ClientState.{ClientState}
use Rattle.backend.specs.declared.client.End.{End}
use Rattle.backend.specs.World.{is_live, with_state, with_map, drawn, next_serial}
use Rattle.backend.specs.Acts.{Act, entered, ended, fresh}
use Rattle.accounts.specs.Shown.{objects_of}
use Rattle.accounts.specs.Accounts.{Has, Apart, entries_in, ends_in}
use Rattle.accounts.proofs.Living.{living}

-- the handles whose end was told
abbrev pub told : List Act → List ObjectId
told as' = objects_of (ends_in as')

-- a handle that names a live object
abbrev pub Alive : ObjectId → Option Client → Type 0
Alive x None = ⊥
Alive x (Some k) = (o : Object ObjectData) × (find_in k.map x.id ≡ Some o) × (o.«data».serial ≡ x.serial) × (o.row ≡ x.row)

abbrev pub living_in : Option Client → ℕ
living_in None = 0
living_in (Some k) = living k.map

pub record State (n : ℕ) (es : List ObjectId) (k : Client) : Type 0 where
  pub sized : Sized k.map
  pub used : Used k.map
  pub few : k.last_serial ≤ n
  pub old : (x : ObjectId) → Has x es → x.serial ≤ k.last_serial
  -- id 1 is the display's, and a live client has its display
  pub display_row : (o : Object ObjectData) → find_in k.map 1 ≡ Some o → o.row ≡ 1
  pub display_there : is_live k.state ≡ true → is_some (find_in k.map 1) ≡ true

abbrev pub States : ℕ → List ObjectId → Option Client → Type 0
States n es None = Unit {0}
States n es (Some k) = State n es k

pub record Books (c : ClientId) (n : ℕ) (as' : List Act) (v : Option Client) : Type 0 where
  pub own : (x : ObjectId) → Has x (entries_in as') → x.client ≡ c
  pub apart : Apart (entries_in as')
  pub entered_first : (x : ObjectId) → Has x (told as') → Has x (entries_in as')
  pub told_once : Apart (told as')
  pub found : (x : ObjectId) → x.client ≡ c → Alive x v → Has x (entries_in as') × (Has x (told as') → ⊥)
  pub finds : (x : ObjectId) → Has x (entries_in as') → (Has x (told as') → ⊥) → Alive x v
  pub sums : length (entries_in as') ≡ living_in v + length (told as')
  pub state : States n (entries_in as') v

pub same_handle : (x y : ObjectId) → x.client ≡ y.client → x.id ≡ y.id → x.serial ≡ y.serial → x.row ≡ y.row → x ≡ y
same_handle x y c p q r =
    ap (λ (i : ClientId). record { client = i; id = x.id; serial = x.serial; row = x.row }) c
    ∙ (ap (λ (i : ℕ). record { client = y.client; id = i; serial = x.serial; row = x.row }) p
    ∙ (ap (λ (s : ℕ). record { client = y.client; id = y.id; serial = s; row = x.row }) q
    ∙ ap (λ (s : ℕ). record { client = y.client; id = y.id; serial = y.serial; row = s }) r))

taken_out : {A : Type 0} → A → Option A → A
taken_out d None = d
taken_out d (Some a) = a

pub some_is : {A : Type 0} (a b : A) → Some a ≡ Some b → a ≡ b
unfolding taken_out
some_is a b e = ap (taken_out a) e

pub not_vacant : {A : Type 0} (v : Option A) (o : A) → v ≡ Some o → v ≡ None → ⊥
not_vacant v o p q = let z : ◌≡◌ {A = ℕ} 0 1 = cc in omega arith

-- one more in the list is never fewer
pub later_states : (n m : ℕ) (es : List ObjectId) (v : Option Client) → n ≤ m → States n es v → States m es v
later_states n m es None le s = tt
later_states n m es (Some k) le s = record { sized = s.sized; used = s.used; few = omega (arith, s.few); old = s.old; display_row = s.display_row; display_there = s.display_there }

pub later : {c : ClientId} {n m : ℕ} {as' : List Act} {v : Option Client} → n ≤ m → Books c n as' v → Books c m as' v
later {c} {n} {m} {as'} {v} le b = record {
  own = b.own;
  apart = b.apart;
  entered_first = b.entered_first;
  told_once = b.told_once;
  found = b.found;
  finds = b.finds;
  sums = b.sums;
  state = later_states n m (entries_in as') v le b.state;
}

pub no_books : (c : ClientId) (n : ℕ) → Books c n [] None
no_books c n = record {
  own = λ x p. absurd p;
  apart = tt;
  entered_first = λ x p. absurd p;
  told_once = tt;
  found = λ x e p. absurd p;
  finds = λ x p u. absurd p;
  sums = refl;
  state = tt;
}

-- The books of other acts that show the same entries and ends.
pub same_books : {c : ClientId} {n : ℕ} {v : Option Client} (as' bs : List Act) → entries_in bs ≡ entries_in as' → told bs ≡ told as' → Books c n as' v → Books c n bs v
same_books {c} {n} {v} as' bs e t b = record {
  own = λ x p. b.own x (subst (Has x) e p);
  apart = subst Apart (sym e) b.apart;
  entered_first = λ x p. subst (Has x) (sym e) (b.entered_first x (subst (Has x) t p));
  told_once = subst Apart (sym t) b.told_once;
  found = λ x o p. let f = b.found x o p in (subst (Has x) (sym e) f.0, λ q. f.1 (subst (Has x) t q));
  finds = λ x p u. b.finds x (subst (Has x) e p) (λ q. u (subst (Has x) (sym t) q));
  sums = ap length e ∙ (b.sums ∙ ap (λ (ts : List ObjectId). living_in v + length ts) (sym t));
  state = subst (λ (es : List ObjectId). States n es v) (sym e) b.state;
}

module _ (c : ClientId) (n : ℕ) (as' : List Act) (k : Client) (b : Books c n as' (Some k)) where
  -- another state, which is not live where the client was not
  pub state_books : (s : ClientState) → (is_live s ≡ true → is_live k.state ≡ true) → Books c n as' (Some (with_state s k))
  state_books s less = record {
    own = b.own;
    apart = b.apart;
    entered_first = b.entered_first;
    told_once = b.told_once;
    found = b.found;
    finds = b.finds;
    sums = b.sums;
    state = record {
      sized = b.state.sized;
      used = b.state.used;
      few = b.state.few;
      old = b.state.old;
      display_row = b.state.display_row;
      display_there = λ l. b.state.display_there (less l);
    };
  }

  -- the client goes, with nothing left
  pub vacates_books : living k.map ≡ 0 → ((x : ObjectId) → Alive x (Some k) → ⊥) → Books c n as' None
  vacates_books z dead = record {
    own = b.own;
    apart = b.apart;
    entered_first = b.entered_first;
    told_once = b.told_once;
    found = λ x e p. absurd p;
    finds = λ x p u. dead x (b.finds x p u);
    sums = omega (arith, b.sums, z);
    state = tt;
  }

  pub serial_is : n < 4294967295 → next_serial k ≡ k.last_serial + 1
  serial_is h = let s : k.last_serial + 1 < 2 ^ 32 = omega (arith, b.state.few) in mod-eq_of_lt s

  pub draws_books : n < 4294967295 → Books c (suc n) as' (Some (drawn k))
  draws_books h = record {
    own = b.own;
    apart = b.apart;
    entered_first = b.entered_first;
    told_once = b.told_once;
    found = b.found;
    finds = b.finds;
    sums = b.sums;
    state = record {
      sized = b.state.sized;
      used = b.state.used;
      few = omega (arith, b.state.few, serial_is h);
      old = λ x p. omega (arith, b.state.old x p, serial_is h);
      display_row = b.state.display_row;
      display_there = b.state.display_there;
    };
  }

-- A map with one object more.
pub record Entry (m : ObjectMap ObjectData) (id : ℕ) (o : Object ObjectData) (p : ObjectMap ObjectData) : Type 0 where
  pub there : find_in p id ≡ Some o
  pub others : (j : ℕ) → j ≢ id → find_in p j ≡ find_in m j
  pub vacant : find_in m id ≡ None
  pub counts : living p ≡ 1 + living m
  pub keeps_size : Sized m → Sized p
  pub keeps_use : Used m → Used p

-- A map with one object less.
pub record Gone (m : ObjectMap ObjectData) (id : ℕ) (p : ObjectMap ObjectData) : Type 0 where
  pub none : find_in p id ≡ None
  pub others : (j : ℕ) → j ≢ id → find_in p j ≡ find_in m j
  pub counts : living m ≡ 1 + living p
  pub keeps_size : Sized m → Sized p
  pub keeps_use : Used m → Used p

-- A map with other data of one object.
pub record Marked (m : ObjectMap ObjectData) (id : ℕ) (o q : Object ObjectData) (p : ObjectMap ObjectData) : Type 0 where
  pub was : find_in m id ≡ Some o
  pub there : find_in p id ≡ Some q
  pub serial_stays : q.«data».serial ≡ o.«data».serial
  pub row_stays : q.row ≡ o.row
  pub others : (j : ℕ) → j ≢ id → find_in p j ≡ find_in m j
  pub counts : living p ≡ living m
  pub keeps_size : Sized m → Sized p
  pub keeps_use : Used m → Used p

module _ (c : ClientId) (n : ℕ) (as' : List Act) (k : Client) (b : Books c n as' (Some k)) where
  -- an entry
  module _ (h : n < 4294967295) (id row : ℕ) (o : Object ObjectData) (p : ObjectMap ObjectData) (e : Entry k.map id o p)
      (serial_of : o.«data».serial ≡ next_serial k) (row_of : o.row ≡ row) (not_one : id ≢ 1) where
    abbrev it : ObjectId
    it = fresh c id row k

    abbrev then : Client
    then = with_map p (drawn k)

    unused : Has it (entries_in as') → ⊥
    unused q = omega (arith, b.state.old it q, serial_is c n as' k b h)

    found_it : (x : ObjectId) → x.client ≡ c → Alive x (Some then) → x.id ≡ id → Has x (it ∷ entries_in as') × (Has x (told as') → ⊥)
    found_it x own l q =
        let so : l.0 ≡ o = some_is l.0 o (sym l.1 ∙ (ap (find_in p) q ∙ e.there)) in
        let same : x ≡ it = same_handle x it own q
        (sym l.2 ∙ (ap (λ (y : Object ObjectData). y.«data».serial) so ∙ serial_of)) (sym l.3 ∙ (ap (λ (y : Object ObjectData). y.row) so ∙ row_of)) in
        (inl same, λ t. unused (subst (λ (y : ObjectId). Has y (entries_in as')) same (b.entered_first x t)))

    found_other : (x : ObjectId) → x.client ≡ c → Alive x (Some then) → x.id ≢ id → Has x (it ∷ entries_in as') × (Has x (told as') → ⊥)
    found_other x own l q = let f = b.found x own (l.0, sym (e.others x.id q) ∙ l.1, l.2, l.3) in (inr f.0, f.1)

    finds_other : (x : ObjectId) → Has x (entries_in as') → (Has x (told as') → ⊥) → Alive x (Some then)
    finds_other x q u =
        let l = b.finds x q u in
        (l.0, e.others x.id (λ s. not_vacant (find_in k.map x.id) l.0 l.1 (ap (find_in k.map) s ∙ e.vacant)) ∙ l.1, l.2, l.3)

    pub enters_books : Books c (suc n) (entered it ∷ as') (Some then)
    enters_books = record {
      own = λ x q. ⊎_elim (λ s. ap (λ (y : ObjectId). y.client) s) (b.own x) q;
      apart = (unused, b.apart);
      entered_first = λ x q. inr (b.entered_first x q);
      told_once = b.told_once;
      found = λ x own l. ⊎_elim (found_it x own l) (found_other x own l) (cases_eq x.id id);
      finds = λ x q u. ⊎_elim (λ s. subst (λ (y : ObjectId). Alive y (Some then)) (sym s) (o, e.there, serial_of, row_of)) (λ s. finds_other x s u) q;
      sums = omega (arith, b.sums, e.counts);
      state = record {
        sized = e.keeps_size b.state.sized;
        used = e.keeps_use b.state.used;
        few = omega (arith, b.state.few, serial_is c n as' k b h);
        old = λ x q. ⊎_elim (λ s. omega (arith, ap (λ (y : ObjectId). y.serial) s, serial_is c n as' k b h)) (λ s. omega (arith, b.state.old x s, serial_is c n as' k b h)) q;
        display_row = λ d f. b.state.display_row d (sym (e.others 1 (λ s. not_one (sym s))) ∙ f);
        display_there = λ l. ap is_some (e.others 1 (λ s. not_one (sym s))) ∙ b.state.display_there l;
      };
    }

  -- an end
  module _ (t : End) (p : ObjectMap ObjectData) (e : Gone k.map t.object.id p) (mine : t.object.client ≡ c) (lives : Alive t.object (Some k))
      (spared : (is_live k.state ≡ false) ⊎ (t.object.id ≢ 1)) where
    abbrev gone : ObjectId
    gone = t.object

    abbrev left : Client
    left = with_map p k

    other_alive : (y : ObjectId) → Alive y (Some left) → y.id ≢ gone.id
    other_alive y l q = not_vacant (find_in p y.id) l.0 l.1 (ap (find_in p) q ∙ e.none)

    left_found : (y : ObjectId) → y.client ≡ c → Alive y (Some left) → Has y (entries_in as') × (Has y (gone ∷ told as') → ⊥)
    left_found y own l =
        let ne = other_alive y l in
        let f = b.found y own (l.0, sym (e.others y.id ne) ∙ l.1, l.2, l.3) in
        (f.0, ⊎_elim (λ q. ne (ap (λ (z : ObjectId). z.id) q)) f.1)

    left_finds : (y : ObjectId) → Has y (entries_in as') → (Has y (gone ∷ told as') → ⊥) → Alive y (Some left)
    left_finds y q u =
        let l = b.finds y q (λ s. u (inr s)) in
        let ne : y.id ≢ gone.id = λ s.
        let so : l.0 ≡ lives.0 = some_is l.0 lives.0 (sym l.1 ∙ (ap (find_in k.map) s ∙ lives.1)) in
        u (inl (same_handle y gone (b.own y q ∙ sym mine) s
        (sym l.2 ∙ (ap (λ (z : Object ObjectData). z.«data».serial) so ∙ lives.2)) (sym l.3 ∙ (ap (λ (z : Object ObjectData). z.row) so ∙ lives.3)))) in
        (l.0, e.others y.id ne ∙ l.1, l.2, l.3)

    pub ends_books : Books c n (ended t ∷ as') (Some left)
    ends_books = record {
      own = b.own;
      apart = b.apart;
      entered_first = λ y q. ⊎_elim (λ s. subst (λ (z : ObjectId). Has z (entries_in as')) (sym s) (b.found gone mine lives).0) (b.entered_first y) q;
      told_once = ((b.found gone mine lives).1, b.told_once);
      found = left_found;
      finds = left_finds;
      sums = omega (arith, b.sums, e.counts);
      state = record {
        sized = e.keeps_size b.state.sized;
        used = e.keeps_use b.state.used;
        few = b.state.few;
        old = b.state.old;
        display_row = λ d f. ⊎_elim (λ s. absurd (not_vacant (find_in p 1) d f (ap (find_in p) s ∙ e.none))) (λ s. b.state.display_row d (sym (e.others 1 s) ∙ f)) (cases_eq 1 gone.id);
        display_there = λ l. ⊎_elim (λ s. absurd (both_ways (is_live k.state) s l))
            (λ ne. ap is_some (e.others 1 (λ s. ne (sym s))) ∙ b.state.display_there l) spared;
      };
    }

  -- an object's data is set
  module _ (id : ℕ) (o q : Object ObjectData) (p : ObjectMap ObjectData) (e : Marked k.map id o q p) where
    abbrev set_to : Client
    set_to = with_map p k

    alive_then : (x : ObjectId) → Alive x (Some k) → Alive x (Some set_to)
    alive_then x l =
        ⊎_elim
        (λ s. let so : l.0 ≡ o = some_is l.0 o (sym l.1 ∙ (ap (find_in k.map) s ∙ e.was)) in
        (q, ap (find_in p) s ∙ e.there, e.serial_stays ∙ (ap (λ (z : Object ObjectData). z.«data».serial) (sym so) ∙ l.2), e.row_stays ∙ (ap (λ (z : Object ObjectData). z.row) (sym so) ∙ l.3)))
        (λ s. (l.0, e.others x.id s ∙ l.1, l.2, l.3))
        (cases_eq x.id id)

    alive_before : (x : ObjectId) → Alive x (Some set_to) → Alive x (Some k)
    alive_before x l =
        ⊎_elim
        (λ s. let so : l.0 ≡ q = some_is l.0 q (sym l.1 ∙ (ap (find_in p) s ∙ e.there)) in
        (o, ap (find_in k.map) s ∙ e.was, sym e.serial_stays ∙ (ap (λ (z : Object ObjectData). z.«data».serial) (sym so) ∙ l.2), sym e.row_stays ∙ (ap (λ (z : Object ObjectData). z.row) (sym so) ∙ l.3)))
        (λ s. (l.0, sym (e.others x.id s) ∙ l.1, l.2, l.3))
        (cases_eq x.id id)

    pub marks_books : Books c n as' (Some set_to)
    marks_books = record {
      own = b.own;
      apart = b.apart;
      entered_first = b.entered_first;
      told_once = b.told_once;
      found = λ x own l. b.found x own (alive_before x l);
      finds = λ x has u. alive_then x (b.finds x has u);
      sums = b.sums ∙ ap (λ (m : ℕ). m + length (told as')) (sym e.counts);
      state = record {
        sized = e.keeps_size b.state.sized;
        used = e.keeps_use b.state.used;
        few = b.state.few;
        old = b.state.old;
        display_row = λ d f. ⊎_elim
            (λ s. let so : d ≡ q = some_is d q (sym f ∙ (ap (find_in p) s ∙ e.there)) in
            ap (λ (z : Object ObjectData). z.row) so ∙ (e.row_stays ∙ b.state.display_row o (ap (find_in k.map) s ∙ e.was)))
            (λ s. b.state.display_row d (sym (e.others 1 s) ∙ f)) (cases_eq 1 id);
        display_there = λ l. ⊎_elim (λ s. ap is_some (ap (find_in p) s ∙ e.there)) (λ s. ap is_some (e.others 1 s) ∙ b.state.display_there l) (cases_eq 1 id);
      };
    }
