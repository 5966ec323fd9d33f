-- A step that fails, and one that syncs.
use Rattle.std.proofs.Common.{◌≡◌, ℕ, ◌-◌, true, false, eqb, ltb, [], ◌∷◌, None, Ok, Result, refl, ap, ◌∙◌}
use Rattle.std.proofs.lemmas.Bool.{cond-true, cond-false}
use Rattle.map.specs.declared.DataMark.TheVariants.{Own}
use Rattle.map.specs.declared.ObjectData.{ObjectData}
use Rattle.map.specs.declared.ObjectMap.{ObjectMap}
use Rattle.map.specs.Map.{limit, inserted, removed}
use Rattle.message.specs.Events.{EventModel, sendable}
use Rattle.wire.specs.Line.{Line, Waiting, head_of, write_answer, with_event, written}
use Rattle.wire.specs.declared.answers.WriteError.{WriteError}
use Rattle.backend.specs.declared.ids.ClientId.{ClientId}
use Rattle.backend.specs.declared.ids.ObjectId.{ObjectId}
use Rattle.backend.specs.declared.client.Client.{Client}
use Rattle.backend.specs.declared.client.DisconnectReason.TheVariants.{ProtocolError}
use Rattle.backend.specs.declared.ticket.Outstanding.TheVariants.{Nothing}
use Rattle.backend.specs.declared.answers.StepAnswer.TheVariants.{Synced}
use Rattle.backend.specs.Events.{error_event, delete_id, done_event}
use Rattle.backend.specs.Faults.{code_of, number_of_error}
use Rattle.backend.specs.World.{Terms, World, client_at, following}
use Rattle.backend.specs.Acts.{entered, took, received, ended, flushed as carried, tagged, Seat, killed, lost, heard, offer, fresh, new_object, enter, remove, end}
use Rattle.backend.specs.Calls.{roomy, step_run}
use Rattle.backend.specs.Arguments.{Failing}
use Rattle.backend.specs.Requests.{Buffers, Stepped, stepped, quiet, failed, synced}
use Rattle.backend.specs.Perform.{Outcome}
use Rattle.accounts.specs.Histories.{gained}
use Rattle.engine_laws.specs.Cases.{Fails, asking, stepping}
use Rattle.engine_laws.proofs.CaseSits.{living, Sits, sits_asking, sits_stepped, place_of, over, steps}
use Rattle.engine_laws.proofs.CaseAsked.{taken, emptied}

-- a line that takes one more event takes one that is not too large
pub takes : (e : EventModel) (l : Line) → sendable e ≡ true → eqb l.allowance 0 ≡ false → write_answer e l ≡ Ok tt
takes e l fits room = cond-false (eqb l.allowance 0) _ _ room ∙ cond-true (sendable e) _ _ fits

pub offer_is : (e : EventModel) (s : Seat) → sendable e ≡ true → eqb s.line.allowance 0 ≡ false → offer e s ≡ record { client = s.client; line = with_event e s.line; acts = took e ∷ s.acts }
offer_is e s fits room = λ i. record { client = lost (answers i) s.client; line = line i; acts = heard (answers i) e ∷ s.acts }
  where
    answers : write_answer e s.line ≡ Ok tt
    answers = takes e s.line fits room

    line : written e s.line ≡ with_event e s.line
    line = cond-false (eqb s.line.allowance 0) _ _ room ∙ cond-true (sendable e) _ _ fits

module _ (t : Terms) {w : World} {c : ClientId} {serial d n : ℕ} {m : ObjectMap ObjectData} {l : Line} (s : Sits w c (living serial d n m) l) (room : eqb l.allowance 0 ≡ false) where
  -- what a sync comes to
  abbrev pub once : ℕ → Buffers → Stepped
  once id b = record {
    answer = Synced (record { object = fresh c id 3 (living serial d n m); mark = Own });
    seat = record {
      client = living serial d (following n) (removed (inserted m id (new_object 3 1 Own (living serial d n m))) id);
      line = with_event (delete_id id) (with_event (done_event id) (emptied l));
      acts = ended (record { object = fresh c id 3 (living serial d n m); mark = Own })
          ∷ took (delete_id id) ∷ took (done_event id) ∷ entered (fresh c id 3 (living serial d n m)) ∷ received ∷ [];
    };
    roll = w.engine.registry.roll;
    outstanding = Nothing;
    buffers = b;
  }

  -- a step of a live client that comes to a failure
  pub fails_so : (b : Buffers) → roomy b ≡ true → (r : Waiting) (k : ℕ) (f : Failing) (b' : Buffers)
      → stepped (place_of t s) (head_of (gained (r ∷ []) l)) (record { client = living serial d n m; line = gained (r ∷ []) l; acts = [] }) b
      ≡ failed (place_of t s) f None (taken (living serial d k m) (emptied l)) b'
      → sendable (error_event 1 (number_of_error (code_of f.fault)) f.text) ≡ true
      → Fails c f.fault (number_of_error (code_of f.fault)) f.text (stepping t c b r w)
  fails_so b large r k f b' e fits = record {
    answers = ap (λ (o : Outcome). o.answer) is;
    told = ap (λ (o : Outcome). o.run.deeds) is ∙ ap (λ (v : Result (Unit {0}) WriteError). tagged c (carried ∷ heard v event ∷ received ∷ [])) took_it;
    killed = (
      to.seat.client,
      ap (λ (o : Outcome). client_at o.run.world c) is ∙ sits.there,
      ap (λ (v : Result (Unit {0}) WriteError). (after v).state) took_it,
    );
  }
    where
      event : EventModel
      event = error_event 1 (number_of_error (code_of f.fault)) f.text

      took_it : write_answer event (emptied l) ≡ Ok tt
      took_it = takes event (emptied l) fits room

      to : Stepped
      to = failed (place_of t s) f None (taken (living serial d k m) (emptied l)) b'

      after : Result (Unit {0}) WriteError → Client
      after v = killed (ProtocolError (record { code = number_of_error (code_of f.fault); object = 1; row = 1 })) (lost v (living serial d k m))

      is : stepping t c b r w ≡ over t (sits_asking (r ∷ []) s) to
      is = steps t (sits_asking (r ∷ []) s) b large to e

      sits : Sits (step_run c (asking c r w) to).world c to.seat.client to.seat.line
      sits = sits_stepped to (ap (λ (v : Result (Unit {0}) WriteError). (after v).serial) took_it) refl (sits_asking (r ∷ []) s)

  -- a step that enters a sync's callback
  pub syncs_so : eqb (l.allowance - 1) 0 ≡ false → (b : Buffers) → roomy b ≡ true → (r : Waiting) (id : ℕ) (b' : Buffers) → ltb id limit ≡ true
      → stepped (place_of t s) (head_of (gained (r ∷ []) l)) (record { client = living serial d n m; line = gained (r ∷ []) l; acts = [] }) b
      ≡ synced (place_of t s) id (Ok tt) (taken (living serial d n m) (emptied l)) b'
      → stepping t c b r w ≡ over t (sits_asking (r ∷ []) s) (once id b')
  syncs_so more b large r id b' low e = steps t (sits_asking (r ∷ []) s) b large (once id b') (e ∙ come)
    where
      x : ObjectId
      x = fresh c id 3 (living serial d n m)

      entered_at : Seat
      entered_at = enter c id 3 1 Own (taken (living serial d n m) (emptied l))

      told : Seat
      told = record { client = entered_at.client; line = with_event (done_event id) (emptied l); acts = took (done_event id) ∷ entered_at.acts }

      come : synced (place_of t s) id (Ok tt) (taken (living serial d n m) (emptied l)) b' ≡ once id b'
      come = ap (λ (a : Seat). quiet (place_of t s) (Synced (record { object = x; mark = Own })) a b')
          (ap (end x Own) (offer_is (done_event id) entered_at refl room)
          ∙ ap (remove x Own) (cond-true (ltb id limit) (offer (delete_id id) told) told low ∙ offer_is (delete_id id) told refl more))
