-- Which answer a step gives to a request, and what is outstanding after it.
use Rattle.std.proofs.Common.{◌≡◌, ℕ, zero, suc, ◌+◌, ◌≤◌, true, cond, eqb, ltb, ◌≢◌, List, [], ◌∷◌, set, take, is_some, Some, None, Ok, Err, Option, Result, sym, subst, inl, inr, refl, ap, ◌∙◌, arith}
use Rattle.std.proofs.lemmas.Bool.{cond_both, eqb-true, eqb-false, false≢true}
use Rattle.std.specs.List.{slice_get}
use Rattle.map.specs.declared.DataMark.TheVariants.{Own, Awaited}
use Rattle.map.specs.declared.fault.MapFault.{MapFault}
use Rattle.map.specs.declared.Object.{Object}
use Rattle.map.specs.declared.ObjectData.{ObjectData}
use Rattle.places.specs.Places.{lowest, places_new}
use Rattle.map.specs.declared.ObjectMap.{ObjectMap}
use Rattle.map.specs.Map.{limit, find_in, insert_answer}
use Rattle.protocol.specs.declared.argument.Argument.{Argument}
use Rattle.protocol.specs.CoreRows.{display, registry, core_rows}
use Rattle.protocol.specs.Kinds.{is_new_id, agree}
use Rattle.protocol.specs.Lawful.{Lawful}
use Rattle.protocol.specs.Meaning.{request_of, request_in}
use Rattle.protocol.specs.Model.{MessageModel, RowModel}
use Rattle.protocol.specs.Tallies.{count}
use Rattle.message.specs.declared.part.Part.{Part}
use Rattle.message.specs.Events.{EventModel, sendable}
use Rattle.wire.specs.Line.{Line, Waiting, write_answer, written}
use Rattle.wire.specs.declared.answers.WriteError.{WriteError}
use Rattle.backend.specs.declared.ids.ClientId.{ClientId}
use Rattle.backend.specs.declared.ids.ObjectId.{ObjectId}
use Rattle.backend.specs.declared.client.Client.{Client}
use Rattle.backend.specs.declared.client.End.{End}
use Rattle.backend.specs.declared.registry.Global.{Global}
use Rattle.backend.specs.declared.ticket.Origin.{Origin}
use Rattle.backend.specs.declared.ticket.Making.{Making as MakingRequest}
use Rattle.backend.specs.declared.answers.StepAnswer.{StepAnswer}
use Rattle.backend.specs.declared.answers.StepAnswer.TheVariants.{Idle, Closed, Synced, Registered, Plain, Making, Failed}
use Rattle.backend.specs.Events.{done_event, delete_id, global_event}
use Rattle.backend.specs.Texts.{name_in}
use Rattle.backend.specs.World.{Terms, is_live}
use Rattle.backend.specs.Acts.{Seat, lost, offer, tell, fresh, new_object, enter}
use Rattle.backend.specs.Arguments.{Asked, Failing, child_row, Walked, walk}
use Rattle.backend.specs.Reading.{BindAsked, only_new_id, bind_arguments}
use Rattle.backend.specs.Registries.{roll_end, visible, announce, announce_all}
use Rattle.backend.specs.Requests.{Buffers, Stepped, Place, synced, enlisted, registered, displayed, bind_entered, bind_to, bind_named, bound, hand_out, concluded, asked, origin_of, dispatched}
use Rattle.accounts.proofs.Books.{not_vacant, some_is}
use Rattle.accounts.proofs.Maps.{insert_entry}
use Rattle.accounts.proofs.Seats.{lost_map}
use Rattle.laws.proofs.Find.{removed_none}
use Rattle.accounts.proofs.Steps.{one_new_id}
use Rattle.accounts.proofs.Walks.{walk_any}
use Rattle.engine_laws.specs.Touched.{OnRoll}
use Rattle.engine_laws.proofs.WalkLemmas.{walk_enters_none, walk_made_none}

-- Events leave the requests that wait.

written_waits : (e : EventModel) (l : Line) → (written e l).requests ≡ l.requests
written_waits e l =
    cond_both (eqb l.allowance 0) _ _ (λ (q : Line). q.requests ≡ l.requests) (λ _. refl) (λ _. cond_both (sendable e) _ _ (λ (q : Line). q.requests ≡ l.requests) (λ _. refl) (λ _. refl))

-- nor do they change the objects, or who the client is
record Alike (s y : Seat) : Type 0 where
  waits : y.line.requests ≡ s.line.requests
  objects : y.client.map ≡ s.client.map
  serial : y.client.serial ≡ s.client.serial

alike : (s : Seat) → Alike s s
alike s = record { waits = refl; objects = refl; serial = refl }

lost_serial : (r : Result (Unit {0}) WriteError) (k : Client) → (lost r k).serial ≡ k.serial
lost_serial (Ok u) k = refl
lost_serial (Err e) k = refl

offer_alike : (e : EventModel) (s : Seat) → Alike s (offer e s)
offer_alike e s = record {
  waits = written_waits e s.line;
  objects = lost_map (write_answer e s.line) s.client;
  serial = lost_serial (write_answer e s.line) s.client;
}

tell_alike : (e : EventModel) (s : Seat) → Alike s (tell e s)
tell_alike e s = cond_both (is_live s.client.state) _ _ (Alike s) (λ _. offer_alike e s) (λ _. alike s)

-- before an object is removed, delete_id is offered or not
abbrev cleared : ObjectId → Seat → Seat
cleared x s = cond (ltb x.id limit) (offer (delete_id x.id) s) s

cleared_alike : (x : ObjectId) (s : Seat) → Alike s (cleared x s)
cleared_alike x s = cond_both (ltb x.id limit) _ _ (Alike s) (λ _. offer_alike (delete_id x.id) s) (λ _. alike s)

announce_alike : (t : Terms) (x : ObjectId) (name : ℕ) (g : Global) (s : Seat) → Alike s (announce t x name g s)
announce_alike t x name g s =
    cond_both (visible t x.client s.client name g) _ _ (Alike s) (λ _. tell_alike (global_event x.id name (name_in t.rows g.row) g.version) s) (λ _. alike s)

further : (s y z : Seat) → Alike y z → Alike s y → Alike s z
further s y z a b = record { waits = a.waits ∙ b.waits; objects = a.objects ∙ b.objects; serial = a.serial ∙ b.serial }

announce_all_alike : (t : Terms) (x : ObjectId) (name : ℕ) (gs : List (Option Global)) (s : Seat) → Alike s (announce_all t x name gs s)
announce_all_alike t x name [] s = alike s
announce_all_alike t x name (None ∷ gs) s = announce_all_alike t x (name + 1) gs s
announce_all_alike t x name (Some g ∷ gs) s =
    let y = cond g.disabled s (announce t x name g s) in
    further s y (announce_all t x (name + 1) gs y) (announce_all_alike t x (name + 1) gs y)
    (cond_both g.disabled s (announce t x name g s) (Alike s) (λ _. alike s) (λ _. announce_alike t x name g s))

-- one more at the end of the roll is on it
set_on_roll : (n : ℕ) (xs : List (Option ObjectId)) (j i : ℕ) (x : ObjectId) → lowest n xs ≡ Some j → j ≡ n + i → OnRoll x (set xs i (Some x))
set_on_roll n [] j i x e h = absurd (not_vacant None j e refl)
set_on_roll n (None ∷ xs) j zero x e h = inl refl
set_on_roll n (None ∷ xs) j (suc i) x e h = let q : n ≡ j = some_is n j e in absurd (omega arith)
set_on_roll n (Some y ∷ xs) j zero x e h = inl refl
set_on_roll n (Some y ∷ xs) j (suc i) x e h = inr (set_on_roll (n + 1) xs j i x e (omega arith))

-- The core's rows.

module _ (rows : List RowModel) (lawful : Lawful rows) where
  core : (slice_get rows 1 ≡ Some display) × (slice_get rows 2 ≡ Some registry)
  core = go rows lawful.begins
    where
      go : (xs : List RowModel) → take 4 xs ≡ core_rows → (slice_get xs 1 ≡ Some display) × (slice_get xs 2 ≡ Some registry)
      go [] e = let z : ◌≡◌ {A = ℕ} 0 1 = cc in absurd (omega arith)
      go (a ∷ []) e = let z : ◌≡◌ {A = ℕ} 0 1 = cc in absurd (omega arith)
      go (a ∷ b ∷ []) e = let z : ◌≡◌ {A = ℕ} 0 1 = cc in absurd (omega arith)
      go (a ∷ b ∷ d ∷ xs) e =
          let q : b ≡ display = cc in let r : d ≡ registry = cc in (ap (λ (y : RowModel). Some y) q, ap (λ (y : RowModel). Some y) r)

  -- wl_display has two requests
  display_opcode : (row opcode : ℕ) (m : MessageModel) → row ≡ 1 → request_in rows row opcode ≡ Some m → opcode ≢ 0 → opcode ≡ 1
  display_opcode row opcode m one e ne =
      go opcode (ap (λ (r : Option RowModel). request_of r opcode) (sym (ap (slice_get rows) one ∙ core.0)) ∙ e) ne
    where
      go : (i : ℕ) → slice_get display.requests i ≡ Some m → i ≢ 0 → i ≡ 1
      go zero q n = absurd (n refl)
      go (suc zero) q n = refl
      go (suc (suc i)) q n = absurd (not_vacant None m q refl)

  -- wl_registry has one, with one new id
  bind_new_id : (row opcode : ℕ) (m : MessageModel) → row ≡ 2 → request_in rows row opcode ≡ Some m → count is_new_id m.kinds ≡ 1
  bind_new_id row opcode m two e =
      go opcode (ap (λ (r : Option RowModel). request_of r opcode) (sym (ap (slice_get rows) two ∙ core.1)) ∙ e)
    where
      go : (i : ℕ) → slice_get registry.requests i ≡ Some m → count is_new_id m.kinds ≡ 1
      go zero q = ap (λ (x : MessageModel). count is_new_id x.kinds) (sym (some_is _ m q))
      go (suc i) q = absurd (not_vacant None m q refl)

  -- a request that makes an object names its row, unless it is of a registry
  names_child : (row opcode : ℕ) (m : MessageModel) → row ≢ 2 → request_in rows row opcode ≡ Some m → count is_new_id m.kinds ≡ 1 → m.child ≡ Some (child_row m.child)
  names_child row opcode m ne e one = there m.child (go (slice_get rows row) refl e)
    where
      go : (r : Option RowModel) → slice_get rows row ≡ r → request_of r opcode ≡ Some m → is_some m.child ≡ true
      go None q f = absurd (not_vacant None m f refl)
      go (Some r) q f = lawful.makes row r ne q opcode m f (omega (arith, one))

      there : (v : Option ℕ) → is_some v ≡ true → v ≡ Some (child_row v)
      there None h = absurd (false≢true h)
      there (Some i) h = refl

-- What is known of a request, by the answer.

-- an object of the client c waits for its data
pub record Waits (c : ClientId) (x : ObjectId) (s : Seat) : Type 0 where
  pub whose : x.client ≡ c
  pub version : ℕ
  pub there : find_in s.client.map x.id ≡ Some (record { row = x.row; version = version; «data» = record { serial = x.serial; mark = Awaited } })

module _ (p : Place) (lawful : Lawful p.terms.rows) (k : Client) (rs : List Waiting) (id opcode : ℕ) (x : Object ObjectData) (m : MessageModel) (as' : List (Argument ℕ Part)) where
  pub record SyncFits (e : End) (s : Seat) : Type 0 where
    pub ended : find_in s.client.map e.object.id ≡ None
    pub serial : s.client.serial ≡ k.serial
    pub row : x.row ≡ 1
    pub code : opcode ≡ 0
    pub callback : e.object.row ≡ 3
    pub whose : e.object.client ≡ p.client
    pub taken : s.line.requests ≡ rs

  pub record RegistryFits (y : ObjectId) (s : Seat) (roll : List (Option ObjectId)) : Type 0 where
    pub lives : find_in s.client.map y.id ≡ Some (record { row = y.row; version = 1; «data» = record { serial = y.serial; mark = Own } })
    pub serial : s.client.serial ≡ k.serial
    pub on_roll : OnRoll y roll
    pub row : x.row ≡ 1
    pub code : opcode ≡ 1
    pub registry : y.row ≡ 2
    pub whose : y.client ≡ p.client
    pub taken : s.line.requests ≡ rs

  pub record PlainFits (o : Origin) (s : Seat) : Type 0 where
    pub not_display : x.row ≢ 1
    pub not_registry : x.row ≢ 2
    pub says : o ≡ origin_of p.client id opcode x m
    pub none : agree m.kinds as' ≡ true → count is_new_id m.kinds ≡ 0
    pub taken : s.line.requests ≡ rs

  pub record MakingFits (q : MakingRequest) (s : Seat) : Type 0 where
    pub not_display : x.row ≢ 1
    pub says : q.origin ≡ origin_of p.client id opcode x m
    pub one : count is_new_id m.kinds ≡ 1
    pub waits : Waits p.client q.child s
    pub serial : s.client.serial ≡ k.serial
    pub bind : x.row ≡ 2 → is_some q.bound ≡ true
    pub other : x.row ≢ 2 → (q.bound ≡ None) × (m.child ≡ Some q.child.row)
    pub taken : s.line.requests ≡ rs

  abbrev pub Fits : StepAnswer → Seat → List (Option ObjectId) → Type 0
  Fits Idle s roll = ⊥
  Fits Closed s roll = ⊥
  Fits (Synced e) s roll = SyncFits e s
  Fits (Registered y) s roll = RegistryFits y s roll
  Fits (Plain y) s roll = PlainFits y.request s
  Fits (Making y) s roll = MakingFits y.request s
  Fits (Failed e) s roll = Unit {0}

  abbrev pub Comes : Stepped → Type 0
  Comes r = Fits r.answer r.seat r.roll

  abbrev o : Origin
  o = origin_of p.client id opcode x m

  module _ (s : Seat) (b : Buffers) (gone : s.line.requests ≡ rs) (kept : s.client.serial ≡ k.serial) (named : request_in p.terms.rows x.row opcode ≡ Some m) where
    synced_comes : (i : ℕ) → x.row ≡ 1 → opcode ≡ 0 → (r : Result (Unit {0}) MapFault) → Comes (synced p i r s b)
    synced_comes i one z (Err f) = tt
    synced_comes i one z (Ok u) =
        let y = fresh p.client i 3 s.client in
        let made = enter p.client i 3 1 Own s in
        let told = offer_alike (done_event i) made in
        let before = cleared_alike y (offer (done_event i) made) in
        record {
          ended = removed_none (cleared y (offer (done_event i) made)).client.map i;
          serial = before.serial ∙ (told.serial ∙ kept);
          row = one;
          code = z;
          callback = refl;
          whose = refl;
          taken = before.waits ∙ (told.waits ∙ gone);
        }

    enlisted_comes : (i : ℕ) → x.row ≡ 1 → opcode ≡ 1 → insert_answer s.client.map i ≡ Ok tt → (v : Option ℕ) → roll_end p.registry.roll ≡ v → Comes (enlisted p i v s b)
    enlisted_comes i one z e None at_end = tt
    enlisted_comes i one z e (Some j) at_end =
        let y = fresh p.client i 2 s.client in
        let told = announce_all_alike p.terms y 1 p.registry.globals.places (enter p.client i 2 1 Own s) in
        record {
          lives = ap (λ (n : ObjectMap ObjectData). find_in n i) told.objects ∙ (insert_entry s.client.map i (new_object 2 1 Own s.client) e).there;
          serial = told.serial ∙ kept;
          on_roll = subst (λ (v : Option ℕ). OnRoll y (places_new v p.registry.roll y)) (sym at_end) (set_on_roll 0 p.registry.roll j j y at_end (omega arith));
          row = one;
          code = z;
          registry = refl;
          whose = refl;
          taken = told.waits ∙ gone;
        }

    registered_comes : (i : ℕ) → x.row ≡ 1 → opcode ≡ 1 → (r : Result (Unit {0}) MapFault) → insert_answer s.client.map i ≡ r → Comes (registered p i r s b)
    registered_comes i one z (Err f) e = tt
    registered_comes i one z (Ok u) e = enlisted_comes i one z e (roll_end p.registry.roll) refl

    displayed_comes : x.row ≡ 1 → (v : Option ℕ) → Comes (displayed p opcode v s b)
    displayed_comes one None = tt
    displayed_comes one (Some i) =
        cond_both (eqb opcode 0) _ _ Comes (λ z. synced_comes i one (eqb-true opcode 0 z) (insert_answer s.client.map i))
        (λ n. registered_comes i one (display_opcode p.terms.rows lawful x.row opcode m one named (eqb-false opcode 0 n)) (insert_answer s.client.map i) refl)

    module _ (ne : x.row ≢ 1) where
      bind_entered_comes : (name version i : ℕ) (g : Global) → x.row ≡ 2 → (r : Result (Unit {0}) MapFault) → insert_answer s.client.map i ≡ r → Comes (bind_entered p o name version i g r s b)
      bind_entered_comes name version i g two (Err f) e = tt
      bind_entered_comes name version i g two (Ok u) e = record {
        not_display = ne;
        says = refl;
        one = bind_new_id p.terms.rows lawful x.row opcode m two named;
        waits = record { whose = refl; version = version; there = (insert_entry s.client.map i (new_object g.row version Awaited s.client) e).there };
        serial = kept;
        bind = λ _. refl;
        other = λ not_two. absurd (not_two two);
        taken = gone;
      }

      bind_to_comes : (name : ℕ) (interface : List ℕ) (version i : ℕ) → x.row ≡ 2 → (g : Option Global) → Comes (bind_to p o name interface version i g s b)
      bind_to_comes name interface version i two None = tt
      bind_to_comes name interface version i two (Some g) = bind_entered_comes name version i g two (insert_answer s.client.map i) refl

      bind_named_comes : (name : ℕ) (text : Option Part) (version i : ℕ) → x.row ≡ 2 → Comes (bind_named p o name text version i s b)
      bind_named_comes name None version i two = tt
      bind_named_comes name (Some text) version i two = bind_to_comes name _ version i two _

      bound_comes : x.row ≡ 2 → (a : Option (BindAsked Part)) → Comes (bound p o a s b)
      bound_comes two None = tt
      bound_comes two (Some a) = bind_named_comes a.name a.interface a.version a.new_id two

      module _ (other : x.row ≢ 2) where
        abbrev q : Asked
        q = record { sender = o.sender; version = x.version; message = m }

        abbrev r : Walked
        r = walk p.terms q 0 m.kinds as' None m.rows s

        few : count is_new_id m.kinds ≤ 1
        few = one_new_id p.terms.rows lawful x.row opcode m named

        -- the walk leaves the line, and what it enters waits
        abbrev Stays : Seat → Type 0
        Stays y = (y.line.requests ≡ rs) × (y.client.serial ≡ k.serial)

        abbrev Enters : Option ObjectId → Seat → Type 0
        Enters None y = Stays y
        Enters (Some z) y = Stays y × (Waits p.client z y × (z.row ≡ child_row m.child))

        walked : Enters r.child r.seat
        walked =
            walk_any p.terms q Stays Enters (λ y g. g) (λ y g. g)
            (λ y g i e. (g, (record { whose = refl; version = x.version; there = (insert_entry y.client.map i (new_object (child_row m.child) x.version Awaited y.client) e).there }, refl)))
            m.kinds as' 0 None m.rows s few refl (gone, kept)

        out_comes : r.fault ≡ None → (v : Option ObjectId) → r.child ≡ v → Enters v r.seat → Comes (hand_out p o v r.objects r.seat b)
        out_comes sound None e g = record {
          not_display = ne;
          not_registry = other;
          says = refl;
          none = λ ok. walk_made_none p.terms q m.kinds as' 0 None m.rows s ok sound e;
          taken = g.0;
        }
        out_comes sound (Some z) e g =
            let some : count is_new_id m.kinds ≢ 0 = λ n. not_vacant r.child z e (walk_enters_none p.terms q m.kinds as' 0 None m.rows s n) in
            let one : count is_new_id m.kinds ≡ 1 = one_of (count is_new_id m.kinds) few some in
            record {
              not_display = ne;
              says = refl;
              one = one;
              waits = g.1.0;
              serial = g.0.1;
              bind = λ two. absurd (other two);
              other = λ _. (refl, names_child p.terms.rows lawful x.row opcode m other named one ∙ ap (λ (i : ℕ). Some i) (sym g.1.1));
              taken = g.0.0;
            }
          where
            one_of : (n : ℕ) → n ≤ 1 → n ≢ 0 → n ≡ 1
            one_of zero le nz = absurd (nz refl)
            one_of (suc n) le nz = omega (arith, le)

        concluded_comes : (f : Option Failing) → r.fault ≡ f → Comes (concluded p o f r b)
        concluded_comes (Some f) e = tt
        concluded_comes None e = out_comes e r.child refl walked

        asked_comes : Comes (asked p o x m as' s b)
        asked_comes = cond_both (ltb x.version m.since) _ _ Comes (λ _. tt) (λ _. concluded_comes r.fault refl)

    pub dispatched_comes : Comes (dispatched p o x m as' s b)
    dispatched_comes =
        cond_both (eqb x.row 1) _ _ Comes (λ e. displayed_comes (eqb-true x.row 1 e) (only_new_id as'))
        (λ n.
        let ne = eqb-false x.row 1 n in
        cond_both (eqb x.row 2) _ _ Comes (λ e. bound_comes ne (eqb-true x.row 2 e) (bind_arguments as')) (λ z. asked_comes ne (eqb-false x.row 2 z)))
