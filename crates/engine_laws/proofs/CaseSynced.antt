-- A client that asked for sync several times.
use Rattle.std.proofs.Common.{◌≡◌, ℕ, ◌+◌, ◌-◌, ◌≤◌, true, false, eqb, List, [], ◌∷◌, None, Some, Err, Result, sym, refl, ap, ◌∙◌, subst, arith}
use Rattle.std.proofs.lemmas.Bool.{ne_eqb}
use Rattle.map.specs.declared.fault.MapFault.{MapFault}
use Rattle.map.specs.declared.Object.{Object}
use Rattle.map.specs.declared.ObjectData.{ObjectData}
use Rattle.map.specs.declared.ObjectMap.{ObjectMap}
use Rattle.map.specs.declared.DataMark.TheVariants.{Own}
use Rattle.map.specs.Map.{find_in, insert_answer, inserted, removed}
use Rattle.protocol.specs.Lawful.{Lawful}
use Rattle.message.specs.Events.{sendable}
use Rattle.wire.specs.Line.{Line, Waiting, Content, head_of, flushed as flushed_line}
use Rattle.backend.specs.declared.ids.ClientId.{ClientId}
use Rattle.backend.specs.declared.faults.ClientFault.TheVariants.{Entry}
use Rattle.backend.specs.Arguments.{at_argument, entry_failing}
use Rattle.backend.specs.Events.{error_event}
use Rattle.backend.specs.Faults.{code_of_entry, number_of_error}
use Rattle.backend.specs.World.{Terms, World, following}
use Rattle.backend.specs.Acts.{flush as flush_seat, new_object}
use Rattle.backend.specs.Calls.{roomy, display_object}
use Rattle.backend.specs.Requests.{Buffers, Stepped, stepped as stepped_by, failed, filled, synced}
use Rattle.backend.specs.Perform.{Outcome, flush, perform}
use Rattle.accounts.specs.Histories.{gained}
use Rattle.engine_laws.specs.Cases.{AsksSync, stepping, Syncs, none, more, Fails, first_argument}
use Rattle.engine_laws.proofs.CaseSits.{living, Sits, sits_asking, sits_resumed, sits_stepped, place_of, over, flushes}
use Rattle.engine_laws.proofs.CaseAsked.{taken, emptied, syncs_as}
use Rattle.engine_laws.proofs.CaseFailing.{fails_so, once, syncs_so}
use Rattle.engine_laws.proofs.CaseHalves.{Half, low, next_enters, next_half, others_stay}

-- the client stands ready: nothing waits on its line, its allowance is whole, it has its display, and n + 1 ids were used
pub record Ready (c : ClientId) (d allowance n : ℕ) (v : World) : Type 0 where
  pub serial : ℕ
  pub objects : ObjectMap ObjectData
  pub line : Line
  pub sits : Sits v c (living c.serial d serial objects) line
  pub nothing_waits : line.requests ≡ []
  pub allowance_is : line.allowance ≡ allowance
  pub limit_is : line.limit ≡ allowance
  pub half : Half n objects
  pub display : find_in objects 1 ≡ Some display_object

module _ (t : Terms) (lawful : Lawful t.rows) (c : ClientId) (d allowance : ℕ) (enough : 2 ≤ allowance) where
  module _ {n : ℕ} {v : World} (q : Ready c d allowance n v) where
    some_room : eqb q.line.allowance 0 ≡ false
    some_room = ne_eqb q.line.allowance 0 (λ z. omega (arith, q.allowance_is))

    more_room : eqb (q.line.allowance - 1) 0 ≡ false
    more_room = ne_eqb (q.line.allowance - 1) 0 (λ z. omega (arith, q.allowance_is))

    -- an id that does not enter
    pub sync_refused : (b : Buffers) → roomy b ≡ true → (id : ℕ) (f : MapFault) → insert_answer q.objects id ≡ Err f → (text : List ℕ) → (entry_failing 0 f id).text ≡ text
        → sendable (error_event 1 (number_of_error (code_of_entry f)) text) ≡ true → (r : Waiting) → AsksSync r id
        → Fails c (first_argument (Entry f)) (number_of_error (code_of_entry f)) text (stepping t c b r v)
    sync_refused b large id f e text is_text fits r a =
        let x = syncs_as (place_of t q.sits) (living c.serial d q.serial q.objects) q.line q.nothing_waits b large lawful q.display r id a in
        fails_so t q.sits some_room b large r (following q.serial) (at_argument 0 (Entry f) text) (filled x.0 b)
        (x.1 ∙ (ap (λ (o : Result (Unit {0}) MapFault). synced (place_of t q.sits) id o (taken (living c.serial d q.serial q.objects) (emptied q.line)) (filled x.0 b)) e
        ∙ ap (λ (s : List ℕ). failed (place_of t q.sits) (at_argument 0 (Entry f) s) None (taken (living c.serial d (following q.serial) q.objects) (emptied q.line)) (filled x.0 b)) is_text)) fits

    -- an id that enters
    pub sync_done : (b : Buffers) → roomy b ≡ true → (r : Waiting) → AsksSync r (n + 2) → n ≤ 62 → Ready c d allowance (n + 1) (perform t (flush c) (stepping t c b r v).run.world).run.world
    sync_done b large r a few = record {
      serial = following q.serial;
      objects = removed (inserted q.objects (n + 2) callback) (n + 2);
      line = flushed_line to.seat.line;
      sits = subst (λ (w : World). Sits w c to.seat.client (flushed_line to.seat.line)) (sym (ap (λ (o : Outcome). o.run.world) (flushes t after))) (sits_resumed (flush_seat (record { client = to.seat.client; line = to.seat.line; acts = [] })) refl after);
      nothing_waits = refl;
      allowance_is = q.limit_is;
      limit_is = q.limit_is;
      half = next_half n q.objects q.half few callback;
      display = others_stay n q.objects q.half few callback ∙ q.display;
    }
      where
        callback : Object ObjectData
        callback = new_object 3 1 Own (living c.serial d q.serial q.objects)

        x : (o : Content) × (stepped_by (place_of t q.sits) (head_of (gained (r ∷ []) q.line)) (record { client = living c.serial d q.serial q.objects; line = gained (r ∷ []) q.line; acts = [] }) b
            ≡ synced (place_of t q.sits) (n + 2) (insert_answer q.objects (n + 2)) (taken (living c.serial d q.serial q.objects) (emptied q.line)) (filled o b))
        x = syncs_as (place_of t q.sits) (living c.serial d q.serial q.objects) q.line q.nothing_waits b large lawful q.display r (n + 2) a

        to : Stepped
        to = once t q.sits some_room (n + 2) (filled x.0 b)

        is : stepping t c b r v ≡ over t (sits_asking (r ∷ []) q.sits) to
        is = syncs_so t q.sits some_room more_room b large r (n + 2) (filled x.0 b) (low n q.objects q.half few)
            (x.1 ∙ ap (λ (o : Result (Unit {0}) MapFault). synced (place_of t q.sits) (n + 2) o (taken (living c.serial d q.serial q.objects) (emptied q.line)) (filled x.0 b)) (next_enters n q.objects q.half few))

        after : Sits (stepping t c b r v).run.world c to.seat.client to.seat.line
        after = subst (λ (o : Outcome). Sits o.run.world c to.seat.client to.seat.line) (sym is) (sits_stepped to refl refl (sits_asking (r ∷ []) q.sits))

  pub syncs_ready : {before : World} {n : ℕ} {v : World} → Syncs t c before n v → n ≤ 63 → Ready c d allowance 0 before → Ready c d allowance n v
  syncs_ready none le q = q
  syncs_ready (more {n = n} {w = w} b r large a s) le q =
      subst (λ (i : ℕ). Ready c d allowance i (perform t (flush c) (stepping t c b r w).run.world).run.world) (omega arith)
      (sync_done (syncs_ready s (omega arith) q) b large r a (omega arith))
