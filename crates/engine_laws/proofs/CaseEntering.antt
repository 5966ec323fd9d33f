-- A step that enters a registry, and the end of an object of the server's half.
use Rattle.std.proofs.Common.{◌≡◌, ℕ, ◌+◌, true, not, eqb, cond, List, [], ◌∷◌, is_some, Some, None, Ok, Err, Option, Result, sym, refl, ap, ◌∙◌, subst}
use Rattle.std.proofs.lemmas.Bool.{cond-true, eq-eqb, cond_both, false≢true}
use Rattle.map.specs.declared.DataMark.TheVariants.{Own}
use Rattle.map.specs.declared.Object.{Object}
use Rattle.map.specs.declared.ObjectData.{ObjectData}
use Rattle.map.specs.declared.ObjectMap.{ObjectMap}
use Rattle.map.specs.Map.{find_in, insert_answer, inserted}
use Rattle.laws.proofs.Find.{entered_found}
use Rattle.laws.proofs.Lookup.{answers}
use Rattle.protocol.specs.declared.refusal.Refusal.{Refusal}
use Rattle.protocol.specs.declared.refusal.Refusal.TheVariants.{NoClient, Reserved}
use Rattle.message.specs.Events.{EventModel}
use Rattle.wire.specs.Line.{Line, Waiting, head_of, write_answer}
use Rattle.wire.specs.declared.answers.WriteError.{WriteError}
use Rattle.backend.specs.declared.ids.ClientId.{ClientId}
use Rattle.backend.specs.declared.ids.ObjectId.{ObjectId}
use Rattle.backend.specs.declared.client.Client.{Client}
use Rattle.backend.specs.declared.registry.Global.{Global}
use Rattle.backend.specs.declared.ticket.Outstanding.TheVariants.{Nothing}
use Rattle.backend.specs.declared.answers.StepAnswer.TheVariants.{Registered}
use Rattle.backend.specs.Events.{global_event}
use Rattle.backend.specs.Texts.{name_in}
use Rattle.backend.specs.Ids.{local_of}
use Rattle.backend.specs.World.{Terms, World, following, is_live}
use Rattle.backend.specs.Acts.{Seat, from, lost, offer, tell, fresh, new_object, enter, ended, tagged}
use Rattle.backend.specs.Registries.{roll_end, enrolled, visible, announce, announce_all}
use Rattle.backend.specs.Checks.{passing, unless, present, alive, the_object, Owned, the_owned}
use Rattle.backend.specs.Calls.{roomy, step_run, end_in, handle_at, handle_of, destroy_act}
use Rattle.backend.specs.Requests.{Buffers, Stepped, stepped, registered, enlisted}
use Rattle.backend.specs.Perform.{stepped as stepped_answer, find, destroy, found, destroyed, Outcome, told, checked, perform}
use Rattle.accounts.specs.Histories.{gained}
use Rattle.engine_laws.specs.Cases.{Ends, asking, stepping}
use Rattle.engine_laws.proofs.CaseSits.{living, Sits, sits_asking, sits_stepped, place_of, over, steps}
use Rattle.engine_laws.proofs.CaseAsked.{taken, emptied}

-- What announcing leaves of a client: its serial and its objects.

pub record Alike (a b : Client) : Type 0 where
  pub same_serial : a.serial ≡ b.serial
  pub same_map : a.map ≡ b.map

alike_lost : (v : Result (Unit {0}) WriteError) (k : Client) → Alike (lost v k) k
alike_lost (Ok u) k = record { same_serial = refl; same_map = refl }
alike_lost (Err r) k = record { same_serial = refl; same_map = refl }

alike_told : (e : EventModel) (s : Seat) → Alike (tell e s).client s.client
alike_told e s =
    cond_both (is_live s.client.state) (offer e s) s (λ (a : Seat). Alike a.client s.client) (λ _. alike_lost (write_answer e s.line) s.client)
    (λ _. record { same_serial = refl; same_map = refl })

alike_announced : (t : Terms) (x : ObjectId) (name : ℕ) (g : Global) (s : Seat) → Alike (announce t x name g s).client s.client
alike_announced t x name g s =
    let e = global_event x.id name (name_in t.rows g.row) g.version in
    cond_both (visible t x.client s.client name g) (tell e s) s (λ (a : Seat). Alike a.client s.client) (λ _. alike_told e s)
    (λ _. record { same_serial = refl; same_map = refl })

alike_all : (t : Terms) (x : ObjectId) (name : ℕ) (gs : List (Option Global)) (s : Seat) → Alike (announce_all t x name gs s).client s.client
alike_all t x name [] s = record { same_serial = refl; same_map = refl }
alike_all t x name (None ∷ gs) s = alike_all t x (name + 1) gs s
alike_all t x name (Some g ∷ gs) s =
    let a = cond g.disabled s (announce t x name g s) in
    let first = cond_both g.disabled s (announce t x name g s) (λ (a : Seat). Alike a.client s.client) (λ _. record { same_serial = refl; same_map = refl }) (λ _. alike_announced t x name g s) in
    let rest = alike_all t x (name + 1) gs a in
    record { same_serial = rest.same_serial ∙ first.same_serial; same_map = rest.same_map ∙ first.same_map }

-- A client that has an object of this handle.
pub record HasIt (v : World) (c : ClientId) (id serial row : ℕ) : Type 0 where
  pub client : Client
  pub line : Line
  pub sits : Sits v c client line
  pub object : Object ObjectData
  pub lives : find_in client.map id ≡ Some object
  pub serial_is : object.«data».serial ≡ serial
  pub row_is : object.row ≡ row
  pub mark_is : object.«data».mark ≡ Own

-- a step that entered a registry
pub record Entered (c : ClientId) (id serial : ℕ) (o : Outcome) : Type 0 where
  pub answers : o.answer ≡ stepped_answer (Ok (Registered (record { client = c; id = id; serial = serial; row = 2 })))
  pub has_it : HasIt o.run.world c id serial 2

pub finds_it : (t : Terms) {v : World} {c : ClientId} {id serial row : ℕ} → HasIt v c id serial row
    → (perform t (find c id) v).answer ≡ found (Ok (Some (record { client = c; id = id; serial = serial; row = row })))
finds_it t {v} {c} {id} {serial} {row} h =
    ap (λ (o : Option Client). (told found (present o NoClient) v (λ (k : Client). handle_at c k id)).answer) h.sits.there
    ∙ (ap (λ (o : Option (Object ObjectData)). found (Ok (handle_of c id o))) h.lives
    ∙ (λ i. found (Ok (Some (record { client = c; id = id; serial = h.serial_is i; row = h.row_is i })))))

pub ends_it : (t : Terms) {v : World} {c : ClientId} {serial row : ℕ} → HasIt v c 0xFF00_0000 serial row
    → Ends c (record { client = c; id = 0xFF00_0000; serial = serial; row = row }) v (perform t (destroy (record { client = c; id = 0xFF00_0000; serial = serial; row = row })) v)
ends_it t {v} {c} {serial} {row} h = record {
  answers = ap (λ (o : Outcome). o.answer) is ∙ (λ i. destroyed (Ok (record { object = x; mark = h.mark_is i })));
  told = ap (λ (o : Outcome). o.run.deeds) is ∙ (λ i. tagged c (ended (record { object = x; mark = h.mark_is i }) ∷ []));
  line_stays = ap (λ (o : Outcome). o.run.world.lines c.place) is ∙ cond-true (eqb c.place c.place) _ _ (eq-eqb c.place c.place refl);
}
  where
    x : ObjectId
    x = record { client = c; id = 0xFF00_0000; serial = serial; row = row }

    owned : Owned
    owned = record { client = h.client; object = h.object }

    named : the_object h.client x ≡ Ok h.object
    named = ap alive (answers h.client.map (local_of x) h.object (record { live = h.lives; serial_agrees = h.serial_is; row_agrees = h.row_is }))

    is_owned : the_owned v x ≡ Ok owned
    is_owned = ap (λ (o : Option Client). passing (present o NoClient) (λ (k : Client). passing (the_object k x) (λ (q : Object ObjectData). Ok (record { client = k; object = q })))) h.sits.there
        ∙ ap (λ (r : Result (Object ObjectData) Refusal). passing r (λ (q : Object ObjectData). Ok (record { client = h.client; object = q }))) named

    is : perform t (destroy x) v ≡ record { answer = destroyed (Ok (record { object = x; mark = h.object.«data».mark })); run = end_in x h.object.«data».mark h.client (from v) }
    is = ap (λ (r : Result Owned Refusal). checked destroyed (passing r (λ at. passing (unless (not (eqb x.id 1)) Reserved) (λ _. Ok at))) v (destroy_act x v)) is_owned

module _ (t : Terms) {w : World} {c : ClientId} {serial d n : ℕ} {m : ObjectMap ObjectData} {l : Line} (s : Sits w c (living serial d n m) l) where
  -- a step that enters a registry
  pub enters_so : (b : Buffers) → roomy b ≡ true → (r : Waiting) (id : ℕ) (b' : Buffers) → insert_answer m id ≡ Ok tt → is_some (roll_end w.engine.registry.roll) ≡ true
      → stepped (place_of t s) (head_of (gained (r ∷ []) l)) (record { client = living serial d n m; line = gained (r ∷ []) l; acts = [] }) b
      ≡ registered (place_of t s) id (Ok tt) (taken (living serial d n m) (emptied l)) b'
      → Entered c id (following n) (stepping t c b r w)
  enters_so b large r id b' enters place e = go (roll_end w.engine.registry.roll) refl place
    where
      x : ObjectId
      x = fresh c id 2 (living serial d n m)

      k : Client
      k = living serial d (following n) (inserted m id (new_object 2 1 Own (living serial d n m)))

      start : Seat
      start = enter c id 2 1 Own (taken (living serial d n m) (emptied l))

      done : Seat
      done = announce_all t x 1 w.engine.registry.globals.places start

      to : Stepped
      to = record { answer = Registered x; seat = done; roll = enrolled x w.engine.registry.roll; outstanding = Nothing; buffers = b' }

      is : stepped (place_of t s) (head_of (gained (r ∷ []) l)) (record { client = living serial d n m; line = gained (r ∷ []) l; acts = [] }) b ≡ to → stepping t c b r w ≡ over t (sits_asking (r ∷ []) s) to
      is = steps t (sits_asking (r ∷ []) s) b large to

      alike : Alike done.client k
      alike = alike_all t x 1 w.engine.registry.globals.places start

      sits : Sits (step_run c (asking c r w) to).world c done.client done.line
      sits = sits_stepped to alike.same_serial refl (sits_asking (r ∷ []) s)

      has : HasIt (step_run c (asking c r w) to).world c id (following n) 2
      has = record {
        client = done.client;
        line = done.line;
        sits = sits;
        object = new_object 2 1 Own (living serial d n m);
        lives = ap (λ (q : ObjectMap ObjectData). find_in q id) alike.same_map ∙ entered_found m id (new_object 2 1 Own (living serial d n m)) enters;
        serial_is = refl;
        row_is = refl;
        mark_is = refl;
      }

      came : stepping t c b r w ≡ over t (sits_asking (r ∷ []) s) to → Entered c id (following n) (stepping t c b r w)
      came i = record { answers = ap (λ (o : Outcome). o.answer) i; has_it = subst (λ (o : Outcome). HasIt o.run.world c id (following n) 2) (sym i) has }

      go : (v : Option ℕ) → roll_end w.engine.registry.roll ≡ v → is_some v ≡ true → Entered c id (following n) (stepping t c b r w)
      go None q f = absurd (false≢true f)
      go (Some i) q f = came (is (e ∙ ap (λ (v : Option ℕ). enlisted (place_of t s) id v (taken (living serial d n m) (emptied l)) b') q))
