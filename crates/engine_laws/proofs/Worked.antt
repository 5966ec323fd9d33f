-- The worked cases.
use Rattle.std.proofs.Common.{◌≡◌, ℕ, ◌+◌, ◌-◌, ◌≤◌, true, false, eqb, List, [], ◌∷◌, ◌++◌, is_some, Some, None, Ok, Err, Result, sym, refl, ap, ◌∙◌, subst, arith}
use Rattle.std.proofs.lemmas.Bool.{ne_eqb}
use Rattle.std.proofs.lemmas.Fmt.{decimal_digit, decimal_step}
use Rattle.std.specs.Prelude.{codes}
use Rattle.map.specs.declared.fault.MapFault.{MapFault}
use Rattle.map.specs.declared.fault.MapFault.TheVariants.{Beyond, Taken, Full}
use Rattle.map.specs.declared.ObjectData.{ObjectData}
use Rattle.map.specs.declared.ObjectMap.{ObjectMap}
use Rattle.map.specs.Map.{empty_map, insert_answer, inserted}
use Rattle.map.specs.declared.DataMark.TheVariants.{Number}
use Rattle.protocol.specs.declared.argument.Argument.{Argument}
use Rattle.protocol.specs.Meaning.{request_in}
use Rattle.protocol.specs.Model.{MessageModel}
use Rattle.message.specs.declared.part.Part.{Part}
use Rattle.backend.specs.Acts.{new_object}
use Rattle.backend.specs.declared.faults.StepFault.TheVariants.{TooNew}
use Rattle.message.specs.Events.{sendable}
use Rattle.wire.specs.Line.{Line, Waiting, Content, head_of, opened}
use Rattle.backend.specs.declared.ids.ClientId.{ClientId}
use Rattle.backend.specs.declared.registry.Registry.{Registry}
use Rattle.backend.specs.declared.faults.ClientFault.TheVariants.{Entry}
use Rattle.backend.specs.Arguments.{at_argument, entry_failing}
use Rattle.backend.specs.Events.{error_event, delete_id, done_event}
use Rattle.backend.specs.Faults.{code_of_entry, number_of_error}
use Rattle.backend.specs.Texts.{name_in, invalid_new_id, invalid_method}
use Rattle.backend.specs.World.{Terms, World}
use Rattle.backend.specs.Calls.{roomy, display_object}
use Rattle.backend.specs.Registries.{roll_end}
use Rattle.backend.specs.Requests.{Buffers, Stepped, stepped as stepped_by, failed, filled, synced, registered}
use Rattle.backend.specs.Perform.{Outcome, create, created, perform}
use Rattle.accounts.specs.Histories.{gained}
use Rattle.laws.proofs.Kept.{sized_laws}
use Rattle.laws.proofs.Worked.{cases as cases_of_map}
use Rattle.engine_laws.proofs.CaseNewer.{rowed, created_is, sits_created, refuses_newer}
use Rattle.engine_laws.proofs.CaseSynced.{Ready, sync_refused, syncs_ready}
use Rattle.engine_laws.specs.Cases.{Admitted, Asks, AsksSync, AsksRegistry, welcomed, asking, stepping, Syncs, Enters, Fails, first_argument, SyncsOnce, WorkedCases, CasesStand, first_object}
use Rattle.engine_laws.proofs.CaseSits.{living, Sits, sits_admitted, registry_stays, sits_asking, sits_stepped, place_of, over}
use Rattle.engine_laws.proofs.CaseAsked.{taken, emptied, syncs_as, registers_as}
use Rattle.engine_laws.proofs.CaseFailing.{fails_so, once, syncs_so}
use Rattle.engine_laws.proofs.CaseEntering.{Entered, enters_so, finds_it, ends_it}

abbrev first_map : ObjectMap ObjectData
first_map = inserted empty_map 1 display_object

invalid_digit : (n : ℕ) → n + 1 ≤ 10 → invalid_new_id n ≡ codes "Invalid new_id: " ++ (48 + n) ∷ codes "."
invalid_digit n low = ap (λ (ds : List ℕ). codes "Invalid new_id: " ++ ds ++ codes ".") (decimal_digit n (omega arith))

text_66 : invalid_new_id 66 ≡ codes "Invalid new_id: 66."
text_66 =
    ap (λ (ds : List ℕ). codes "Invalid new_id: " ++ ds ++ codes ".") (decimal_step 66 (omega arith) (omega arith) ∙ ap (λ (ds : List ℕ). ds ++ 54 ∷ []) (decimal_digit 6 (omega arith)))

module _ (t : Terms) (d : ℕ) (w : World) (c : ClientId) (b : Buffers) (new : Admitted t d w c) (large : roomy b ≡ true) where
  abbrev line : Line
  line = opened (w.lines c.place)

  sits : Sits (welcomed t d w) c (living c.serial d 0 first_map) line
  sits = sits_admitted t d w c new.answers new.no_ticket

  some_room : eqb line.allowance 0 ≡ false
  some_room = ne_eqb line.allowance 0 (λ z. omega (arith, new.allowed))

  more_room : eqb (line.allowance - 1) 0 ≡ false
  more_room = ne_eqb (line.allowance - 1) 0 (λ z. omega (arith, new.allowed))

  -- an id that does not enter
  refused : (id : ℕ) (f : MapFault) → insert_answer first_map id ≡ Err f → (text : List ℕ) → (entry_failing 0 f id).text ≡ text → sendable (error_event 1 (number_of_error (code_of_entry f)) text) ≡ true
      → (r : Waiting) → AsksRegistry r id → Fails c (first_argument (Entry f)) (number_of_error (code_of_entry f)) text (stepping t c b r (welcomed t d w))
  refused id f e text is_text fits r a =
      let q = registers_as (place_of t sits) (living c.serial d 0 first_map) line refl b large new.lawful refl r id a in
      fails_so t sits some_room b large r 1 (at_argument 0 (Entry f) text) (filled q.0 b)
      (q.1 ∙ (ap (λ (v : Result (Unit {0}) MapFault). registered (place_of t sits) id v (taken (living c.serial d 0 first_map) (emptied line)) (filled q.0 b)) e
      ∙ ap (λ (x : List ℕ). failed (place_of t sits) (at_argument 0 (Entry f) x) None (taken (living c.serial d 1 first_map) (emptied line)) (filled q.0 b)) is_text)) fits

  entered : (id : ℕ) → insert_answer first_map id ≡ Ok tt → (r : Waiting) → AsksRegistry r id → is_some (roll_end w.engine.registry.roll) ≡ true → Entered c id 1 (stepping t c b r (welcomed t d w))
  entered id e r a place =
      let q = registers_as (place_of t sits) (living c.serial d 0 first_map) line refl b large new.lawful refl r id a in
      enters_so t sits b large r id (filled q.0 b) e (subst (λ (g : Registry). is_some (roll_end g.roll) ≡ true) (sym (registry_stays t d w)) place)
      (q.1 ∙ ap (λ (v : Result (Unit {0}) MapFault). registered (place_of t sits) id v (taken (living c.serial d 0 first_map) (emptied line)) (filled q.0 b)) e)

  enters : (id : ℕ) → insert_answer first_map id ≡ Ok tt → (r : Waiting) → AsksRegistry r id → is_some (roll_end w.engine.registry.roll) ≡ true → Enters t c id (stepping t c b r (welcomed t d w))
  enters id e r a place = let q = entered id e r a place in record { answers = q.answers; finds = finds_it t q.has_it }

  sync_once : (r : Waiting) → AsksSync r 2 → SyncsOnce c 2 (asking c r (welcomed t d w)) (stepping t c b r (welcomed t d w))
  sync_once r a = record {
    answers = ap (λ (o : Outcome). o.answer) is;
    events_are = ap (λ (o : Outcome). (o.run.world.lines c.place).events) is
        ∙ (ap (λ (l : Line). l.events) (sits_stepped to refl refl asked).line_is
        ∙ sym (ap (λ (l : Line). l.events ++ done_event 2 ∷ delete_id 2 ∷ []) asked.line_is));
  }
    where
      asked : Sits (asking c r (welcomed t d w)) c (living c.serial d 0 first_map) (gained (r ∷ []) line)
      asked = sits_asking (r ∷ []) sits

      q : (o : Content) × (stepped_by (place_of t sits) (head_of (gained (r ∷ []) line)) (record { client = living c.serial d 0 first_map; line = gained (r ∷ []) line; acts = [] }) b
          ≡ synced (place_of t sits) 2 (Ok tt) (taken (living c.serial d 0 first_map) (emptied line)) (filled o b))
      q = syncs_as (place_of t sits) (living c.serial d 0 first_map) line refl b large new.lawful refl r 2 a

      to : Stepped
      to = once t sits some_room 2 (filled q.0 b)

      is : stepping t c b r (welcomed t d w) ≡ over t asked to
      is = syncs_so t sits some_room more_room b large r 2 (filled q.0 b) refl q.1

  -- after the admission, and after n syncs

  ready : Ready c d (w.lines c.place).limit 0 (welcomed t d w)
  ready = record {
    serial = 0;
    objects = first_map;
    line = line;
    sits = sits;
    nothing_waits = refl;
    allowance_is = refl;
    limit_is = refl;
    half = record { sized = (refl, refl); used = ((sized_laws ObjectData).insert empty_map 1 display_object).1 (sized_laws ObjectData).new.1; length_is = refl };
    display = refl;
  }

  ready_after : (v : World) → Syncs t c (welcomed t d w) 63 v → Ready c d (w.lines c.place).limit 63 v
  ready_after v s = syncs_ready t new.lawful c d (w.lines c.place).limit new.allowed s (omega arith) ready

  too_new : (row opcode e : ℕ) (m : MessageModel) → request_in t.rows row opcode ≡ Some m → m.since ≡ 2 → (arguments : List (Argument ℕ Part)) (r : Waiting) → Asks r 0xFF00_0000 opcode m.kinds arguments
      → ((perform t (create c row 1 e) (welcomed t d w)).answer ≡ created (Ok (first_object c 0xFF00_0000 row)))
      × Fails c TooNew 1 (invalid_method opcode 1 2 (name_in t.rows row) 0xFF00_0000) (stepping t c b r (perform t (create c row 1 e) (welcomed t d w)).run.world)
  too_new row opcode e m has since arguments r a =
      let q = rowed t.rows new.lawful row opcode m has since in (
        created_is t new.lawful sits row e 0xFF00_0000 q.title q.heading_is refl,
        refuses_newer t new.lawful (sits_created t new.lawful sits row e 0xFF00_0000 q.title q.heading_is refl) some_room refl b large r row opcode m has since arguments a
            (new_object row 1 (Number e) (living c.serial d 0 first_map)) refl refl refl,
      )

  worked : WorkedCases t d w c b
  worked = record {
    two_enters = enters 2 refl;
    three_beyond = refused 3 Beyond refl (codes "Invalid new_id: 3.") (invalid_digit 3 (omega arith)) refl;
    server_half_enters = enters 0xFF00_0000 refl;
    one_taken = refused 1 Taken refl (codes "Invalid new_id: 1.") (invalid_digit 1 (omega arith)) refl;
    sync_tells = sync_once;
    half_used = λ v s. let q = ready_after v s in (living c.serial d q.serial q.objects, q.sits.there, q.half.length_is);
    last_full = λ v s r a.
        let q = ready_after v s in
        sync_refused t new.lawful c d (w.lines c.place).limit new.allowed q b large 65 Full ((cases_of_map ObjectData).last_full q.objects q.half.sized q.half.length_is) (codes "No memory.") refl refl r a;
    past_beyond = λ v s r a.
        let q = ready_after v s in
        sync_refused t new.lawful c d (w.lines c.place).limit new.allowed q b large 66 Beyond ((cases_of_map ObjectData).past_beyond q.objects q.half.sized q.half.length_is) (codes "Invalid new_id: 66.") text_66 refl r a;
    too_new = too_new;
    server_half_ends = λ r a place. ends_it t (entered 0xFF00_0000 refl r a place).has_it;
  }

pub cases : CasesStand
cases = record {
  stand = λ t d w c b new large. worked t d w c b new large;
  first_client = λ t d lines lawful allowed. (record { lawful = lawful; answers = refl; no_ticket = refl; allowed = allowed }, refl);
}
