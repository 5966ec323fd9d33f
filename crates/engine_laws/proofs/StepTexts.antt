-- The text of every fault of a step fits.
use Rattle.std.proofs.Common.{◌≡◌, ℕ, ◌+◌, ◌<◌, ◌≤◌, Bool, true, false, cond, not, eqb, ltb, leb, List, [], ◌∷◌, ◌++◌, length, take, drop, Some, None, Ok, Err, Option, Result, sym, refl, ap, ◌∙◌, subst, arith}
use Rattle.std.proofs.Math.Seq.{take-append_seam}
use Rattle.std.proofs.lemmas.Bool.{cond_both, cond-true, cond-false, and_from, and_parts, ltb-false, not-true, false≢true, eq-eqb, ne_eqb, le-leb}
use Rattle.std.proofs.lemmas.List.{take_all, length-append}
use Rattle.std.specs.List.{slice_get}
use Rattle.map.specs.declared.fault.MapFault.{MapFault}
use Rattle.map.specs.declared.Object.{Object}
use Rattle.map.specs.declared.ObjectData.{ObjectData}
use Rattle.map.specs.Map.{find_in, insert_answer}
use Rattle.protocol.specs.declared.argument.Argument.{Argument}
use Rattle.protocol.specs.declared.argument.ArgumentType.{ArgumentType}
use Rattle.protocol.specs.declared.refusal.Refusal.{Refusal}
use Rattle.protocol.specs.declared.refusal.Refusal.TheVariants.{BadSize, TicketOutstanding, ClientKilled}
use Rattle.protocol.specs.Tallies.{all, count}
use Rattle.protocol.specs.Lawful.{Lawful}
use Rattle.protocol.specs.Meaning.{request_in, request_of}
use Rattle.protocol.specs.Model.{RowModel, MessageModel}
use Rattle.message.specs.declared.part.Part.{Part}
use Rattle.message.specs.Meaning.{overlaid}
use Rattle.queue.specs.Ring.{front}
use Rattle.message.specs.Events.{EventModel, sendable}
use Rattle.wire.specs.declared.answers.WriteError.{WriteError}
use Rattle.wire.specs.declared.answers.WriteError.TheVariants.{Refused}
use Rattle.wire.specs.Line.{Line, Content, Waiting, headed, content_of, write_answer}
use Rattle.backend.specs.declared.client.Client.{Client}
use Rattle.backend.specs.declared.client.ClientState.{ClientState}
use Rattle.backend.specs.declared.client.ClientState.TheVariants.{Live, Untold}
use Rattle.backend.specs.declared.client.ClientState.TheVariants as state
use Rattle.backend.specs.declared.client.DisconnectReason.TheVariants.{ConnectionClosed}
use Rattle.backend.specs.Events.{error_event}
use Rattle.backend.specs.Faults.{code_of, number_of_error}
use Rattle.backend.specs.declared.ids.ClientId.{ClientId}
use Rattle.backend.specs.declared.ids.ObjectId.{ObjectId}
use Rattle.backend.specs.declared.registry.Global.{Global}
use Rattle.backend.specs.declared.ticket.Origin.{Origin}
use Rattle.backend.specs.declared.answers.StepAnswer.{StepAnswer}
use Rattle.backend.specs.declared.answers.StepAnswer.TheVariants.{Idle, Closed, Synced, Registered, Plain, Making, Failed}
use Rattle.backend.specs.declared.answers.StepError.{StepError}
use Rattle.backend.specs.declared.faults.ClientFault.TheVariants.{RollFull, NullInterface}
use Rattle.backend.specs.declared.faults.StepFault.TheVariants as fault
use Rattle.backend.specs.Texts.{name_in, unknown_id, unknown_opcode, invalid_method, invalid_binding, no_memory, malformed_request, null_interface}
use Rattle.backend.specs.Reading.{only_new_id, BindAsked, bind_arguments}
use Rattle.backend.specs.World.{Terms, World, client_at, is_live}
use Rattle.backend.specs.Acts.{took, refused, flushed as act_flushed, Seat, from, seat, struck, kill, lost, heard, offer, flush, fail}
use Rattle.backend.specs.Registries.{roll_end}
use Rattle.backend.specs.Arguments.{Asked, Failing, at_argument, entry_failing, Walked, walk}
use Rattle.backend.specs.Requests.{Buffers, Stepped, Place, failed, synced, enlisted, registered, displayed, bind_entered, bind_to, bind_named, bound, hand_out, concluded, asked, origin_of, dispatched, received_at, filled, read_in, of_message, of_sender, stepped}
use Rattle.backend.specs.Acts.{draw}
use Rattle.backend.specs.Calls.{roomy, is_free, step_check, step_of, step_run, step_act}
use Rattle.backend.specs.Perform.{stepped as step_answer, checked, buffers_in}
use Rattle.backend.specs.Checks.{unless, the_client}
use Rattle.protocol.specs.Kinds.{is_new_id}
use Rattle.accounts.proofs.Books.{not_vacant, some_is}
use Rattle.accounts.proofs.Kept.{acts_own, client_same}
use Rattle.accounts.proofs.Steps.{one_new_id}
use Rattle.accounts.proofs.Walks.{walk_any}
use Rattle.engine_laws.proofs.Silence.{tell_same}
use Rattle.accounts.proofs.Checked.{passed, required, ok_is, the_client_lem}
use Rattle.engine_laws.specs.ErrorTexts.{NarrowRequest, Narrow, FitsIn, error_told, blame, Closing, TellsError, TextsFit, FailuresAreTold}
use Rattle.engine_laws.proofs.TextSizes.{Sized, Fits, name, row_name, unknown_id_fits, no_memory_fits, malformed_fits, null_interface_fits, entry_fits, unknown_opcode_fits, invalid_method_fits, invalid_binding_fits}
use Rattle.engine_laws.proofs.ArgumentTexts.{Small, SmallIf, AllSmall, small_only, SmallBind, small_bind, FaultFits, walk_fits}

-- The step.

-- a seat that nothing was told at since the step began: its client's state and serial, and its line's allowance, are those of then
record Sound (z s : Seat) : Type 0 where
  state : s.client.state ≡ z.client.state
  serial : s.client.serial ≡ z.client.serial
  allowance : s.line.allowance ≡ z.line.allowance

-- a failure: a text that fits is told at such a seat, and lies over what the buffer held
record Failure (z : Seat) (before : List ℕ) (e : StepError) (after : List ℕ) (s : Seat) : Type 0 where
  text : List ℕ
  fits : Fits text
  size : e.text ≡ length text
  over : after ≡ overlaid text before
  at : Seat
  sound : Sound z at
  told : s ≡ fail (number_of_error (code_of e.fault)) 1 1 text at

-- an answer that is one of a failure
abbrev Says : Seat → List ℕ → StepAnswer → List ℕ → Seat → Type 0
Says z before Idle after s = Unit {0}
Says z before Closed after s = Unit {0}
Says z before (Synced e) after s = Unit {0}
Says z before (Registered x) after s = Unit {0}
Says z before (Plain x) after s = Unit {0}
Says z before (Making x) after s = Unit {0}
Says z before (Failed e) after s = Failure z before e after s

abbrev Told : Seat → Buffers → Stepped → Type 0
Told z b r = Says z b.text r.answer r.buffers.text r.seat

draw_sound : (z s : Seat) → Sound z s → Sound z (draw s)
draw_sound z s g = record { state = g.state; serial = g.serial; allowance = g.allowance }

module _ (p : Place) (z : Seat) where
  failed_told : (f : Failing) (made : Option ObjectId) (s : Seat) (b : Buffers) → Fits f.text → Sound z s → Told z b (failed p f made s b)
  failed_told f made s b g sound = record { text = f.text; fits = g; size = refl; over = refl; at = s; sound = sound; told = refl }

  out_told : (o : Origin) (v : Option ObjectId) (os : List (Option ObjectId)) (s : Seat) (b : Buffers) → Told z b (hand_out p o v os s b)
  out_told o None os s b = tt
  out_told o (Some child) os s b = tt

  concluded_told : (o : Origin) (f : Option Failing) (r : Walked) (b : Buffers) → FaultFits f → Sound z r.seat → Told z b (concluded p o f r b)
  concluded_told o (Some f) r b g sound = failed_told f r.child r.seat b g sound
  concluded_told o None r b g sound = out_told o r.child r.objects r.seat b

  module _ (s : Seat) (b : Buffers) (sound : Sound z s) where
    synced_told : (id : ℕ) → Small id → (r : Result (Unit {0}) MapFault) → Told z b (synced p id r s b)
    synced_told id small (Err f) = failed_told (entry_failing 0 f id) None (draw s) b (entry_fits f id small) (draw_sound z s sound)
    synced_told id small (Ok u) = tt

    enlisted_told : (id : ℕ) (v : Option ℕ) → Told z b (enlisted p id v s b)
    enlisted_told id None = failed_told (at_argument 0 RollFull no_memory) None (draw s) b no_memory_fits (draw_sound z s sound)
    enlisted_told id (Some i) = tt

    registered_told : (id : ℕ) → Small id → (r : Result (Unit {0}) MapFault) → Told z b (registered p id r s b)
    registered_told id small (Err f) = failed_told (entry_failing 0 f id) None (draw s) b (entry_fits f id small) (draw_sound z s sound)
    registered_told id small (Ok u) = enlisted_told id (roll_end p.registry.roll)

    malformed_told : Told z b (failed p (record { fault = fault.Malformed; text = malformed_request }) None s b)
    malformed_told = failed_told (record { fault = fault.Malformed; text = malformed_request }) None s b malformed_fits sound

    displayed_told : (opcode : ℕ) (v : Option ℕ) → SmallIf v → Told z b (displayed p opcode v s b)
    displayed_told opcode None small = malformed_told
    displayed_told opcode (Some id) small =
        cond_both (eqb opcode 0) _ _ (Told z b) (λ _. synced_told id small (insert_answer s.client.map id)) (λ _. registered_told id small (insert_answer s.client.map id))

    bind_entered_told : (o : Origin) (global version id : ℕ) → Small id → (x : Global) (r : Result (Unit {0}) MapFault) → Told z b (bind_entered p o global version id x r s b)
    bind_entered_told o global version id small x (Err f) = failed_told (entry_failing 3 f id) None (draw s) b (entry_fits f id small) (draw_sound z s sound)
    bind_entered_told o global version id small x (Ok u) = tt

    bind_to_told : (o : Origin) (global : ℕ) (interface : List ℕ) (version id : ℕ) → Small global → Small version → Small id → (x : Option Global) → Told z b (bind_to p o global interface version id x s b)
    bind_to_told o global interface version id g v i None =
        failed_told (record { fault = fault.InvalidBinding; text = invalid_binding interface version global }) None s b (invalid_binding_fits interface version global v g) sound
    bind_to_told o global interface version id g v i (Some x) = bind_entered_told o global version id i x (insert_answer s.client.map id)

    bind_named_told : (o : Origin) (global : ℕ) (text : Option Part) (version id : ℕ) → Small global → Small version → Small id → Told z b (bind_named p o global text version id s b)
    bind_named_told o global None version id g v i = failed_told (at_argument 1 NullInterface null_interface) None s b null_interface_fits sound
    bind_named_told o global (Some text) version id g v i = bind_to_told o global _ version id g v i _

    bound_told : (o : Origin) (a : Option (BindAsked Part)) → SmallBind a → Told z b (bound p o a s b)
    bound_told o None small = malformed_told
    bound_told o (Some a) small = bind_named_told o a.name a.interface a.version a.new_id small.0 small.1 small.2

  module _ (lawful : Lawful p.terms.rows) (few : (row opcode : ℕ) (m : MessageModel) → request_in p.terms.rows row opcode ≡ Some m → Small m.since) where
    asked_told : (id opcode : ℕ) → Small id → Small opcode → (x : Object ObjectData) → Small x.version → (m : MessageModel) → Sized 32 m.name → Small m.since → count is_new_id m.kinds ≤ 1
        → (as' : List (Argument ℕ Part)) → AllSmall as' → (s : Seat) (b : Buffers) → Sound z s → Told z b (asked p (origin_of p.client id opcode x m) x m as' s b)
    asked_told id opcode i j x v m n k one as' small s b sound =
        cond_both (ltb x.version m.since) _ _ (Told z b)
        (λ _. failed_told (record { fault = fault.TooNew; text = invalid_method opcode x.version m.since (name_in p.terms.rows x.row) id }) None s b
        (invalid_method_fits opcode x.version m.since _ id j v k (row_name p.terms.rows lawful x.row) i) sound)
        (λ _. concluded_told o r.fault r b (walk_fits p.terms lawful q n 0 m.kinds as' small None m.rows s)
        (walk_any p.terms q (Sound z) (λ y x. Sound z x) (λ x f. f) (λ x f. draw_sound z x f) (λ x f id e. record { state = f.state; serial = f.serial; allowance = f.allowance }) m.kinds as' 0 None m.rows s one refl sound))
      where
        o : Origin
        o = origin_of p.client id opcode x m

        q : Asked
        q = record { sender = o.sender; version = x.version; message = m }

        r : Walked
        r = walk p.terms q 0 m.kinds as' None m.rows s

    message_laws : (row opcode : ℕ) (m : MessageModel) → request_in p.terms.rows row opcode ≡ Some m → Sized 32 m.name
    message_laws row opcode m e = go (slice_get p.terms.rows row) refl e
      where
        go : (r : Option RowModel) → slice_get p.terms.rows row ≡ r → request_of r opcode ≡ Some m → Sized 32 m.name
        go None q f = absurd (not_vacant None m f refl)
        go (Some r) q f = name m.name ((lawful.sound row r q).requests opcode m f).named

    dispatched_told : (id opcode : ℕ) → Small id → Small opcode → (x : Object ObjectData) → Small x.version → (m : MessageModel) → request_in p.terms.rows x.row opcode ≡ Some m
        → (as' : List (Argument ℕ Part)) → AllSmall as' → (s : Seat) (b : Buffers) → Sound z s → Told z b (dispatched p (origin_of p.client id opcode x m) x m as' s b)
    dispatched_told id opcode i j x v m e as' small s b sound =
        cond_both (eqb x.row 1) _ _ (Told z b) (λ _. displayed_told s b sound opcode (only_new_id as') (small_only as' small))
        (λ _. cond_both (eqb x.row 2) _ _ (Told z b) (λ _. bound_told s b sound (origin_of p.client id opcode x m) (bind_arguments as') (small_bind as' small))
        (λ _. asked_told id opcode i j x v m (message_laws x.row opcode m e) (few x.row opcode m e) (one_new_id p.terms.rows lawful x.row opcode m e) as' small s b sound))

    read_told : (id opcode : ℕ) → Small id → Small opcode → (x : Object ObjectData) → Small x.version → (m : MessageModel) → request_in p.terms.rows x.row opcode ≡ Some m
        → (c : Option Content) → ((d : Content) → c ≡ Some d → AllSmall d.arguments) → (s : Seat) (b : Buffers) → Sound z s → Told z b (read_in p (origin_of p.client id opcode x m) x m c s b)
    read_told id opcode i j x v m e None small s b sound = malformed_told s b sound
    read_told id opcode i j x v m e (Some c) small s b sound =
        dispatched_told id opcode i j x v m e c.arguments (small c refl) (received_at m s b) (filled c b) (record { state = sound.state; serial = sound.serial; allowance = sound.allowance })

    -- what a read gives is what the first request says
    read_small : (w : Waiting) → NarrowRequest w → (size : ℕ) (kinds : List ArgumentType) (d : Content) → cond (ltb size 4096) None (content_of kinds (Some w)) ≡ Some d → AllSmall d.arguments
    read_small w n size kinds d e = go (ltb size 4096) e
      where
        go : (b : Bool) → cond b None (w.content kinds) ≡ Some d → AllSmall d.arguments
        go true q = absurd (not_vacant (Some d) d refl (sym q))
        go false q = n.arguments kinds d q

    message_told : (w : Waiting) → NarrowRequest w → (x : Object ObjectData) → Small x.version → (m : Option MessageModel) → request_in p.terms.rows x.row w.opcode ≡ m
        → (s : Seat) → front s.line.requests ≡ Some w → (b : Buffers) → Sound z s → Told z b (of_message p w.sender w.opcode x m s b)
    message_told w n x v None e s f b sound =
        failed_told (record { fault = fault.UnknownOpcode; text = unknown_opcode w.opcode (name_in p.terms.rows x.row) }) None s b
        (unknown_opcode_fits w.opcode (name_in p.terms.rows x.row) n.opcode (row_name p.terms.rows lawful x.row)) sound
    message_told w n x v (Some m) e s f b sound =
        read_told w.sender w.opcode n.sender n.opcode x v m e _
        (λ d q. read_small w n (length b.body) m.kinds d (ap (λ (y : Option Waiting). cond (ltb (length b.body) 4096) None (content_of m.kinds y)) (sym f) ∙ q)) s b sound

    sender_told : (w : Waiting) → NarrowRequest w → (x : Option (Object ObjectData)) → ((o : Object ObjectData) → x ≡ Some o → Small o.version)
        → (s : Seat) → front s.line.requests ≡ Some w → (b : Buffers) → Sound z s → Told z b (of_sender p w.sender w.opcode x s b)
    sender_told w n None v s f b sound = failed_told (record { fault = fault.UnknownSender; text = unknown_id w.sender }) None s b (unknown_id_fits w.sender n.sender) sound
    sender_told w n (Some x) v s f b sound = message_told w n x (v x refl) (request_in p.terms.rows x.row w.opcode) refl s f b sound

    stepped_told : (w : Option Waiting) (broken : Bool) → ((r : Waiting) → w ≡ Some r → NarrowRequest r) → (s : Seat) → front s.line.requests ≡ w
        → ((id : ℕ) (o : Object ObjectData) → find_in s.client.map id ≡ Some o → Small o.version) → (b : Buffers) → Sound z s → Told z b (stepped p (headed w broken) s b)
    stepped_told None true n s f v b sound = tt
    stepped_told None false n s f v b sound = tt
    stepped_told (Some w) broken n s f v b sound = sender_told w (n w refl) (find_in s.client.map w.sender) (λ o e. v w.sender o e) s f b sound

-- The error that is told.

error_sendable : (code : ℕ) (text : List ℕ) → Fits text → sendable (error_event 1 code text) ≡ true
error_sendable code text f =
    let small : 0 + (0 + (length text + 0)) ≤ 256 = omega (arith, f.short) in
    and_from (leb (0 + (0 + (length text + 0))) 256) _ (le-leb (0 + (0 + (length text + 0))) 256 small) (and_from _ true f.no_zero refl)

answer_taken : (e : EventModel) (l : Line) → sendable e ≡ true → 0 < l.allowance → write_answer e l ≡ Ok tt
answer_taken e l fits some = cond-false (eqb l.allowance 0) _ _ (ne_eqb l.allowance 0 (λ q. omega (arith, q))) ∙ cond-true (sendable e) _ _ fits

answer_refused : (e : EventModel) (l : Line) → l.allowance ≡ 0 → write_answer e l ≡ Err Refused
answer_refused e l none = cond-true (eqb l.allowance 0) _ _ (eq-eqb l.allowance 0 none)

live_is : (s : ClientState) → is_live s ≡ true → s ≡ Live
live_is Live l = refl
live_is (Untold r) l = absurd (false≢true l)
live_is state.Told l = absurd (false≢true l)

-- The call.

module _ (t : Terms) (lawful : Lawful t.rows) (c : ClientId) (b : Buffers) (w : World) (n : Narrow t c w) where
  laid_over : (text before after : List ℕ) (e : StepError) → Fits text → e.text ≡ length text → after ≡ overlaid text before → 192 ≤ length before → take e.text after ≡ text
  laid_over text before after e f s o room =
      let whole : after ≡ text ++ drop (length text) before = o ∙ ap (λ (xs : List ℕ). xs ++ drop (length text) before) (take_all (length before) text (omega (arith, f.short))) in
      ap (λ (i : ℕ). take i after) s ∙ (ap (take (length text)) whole ∙ take-append_seam text (drop (length text) before))

  fits_in : (text before after : List ℕ) (e : StepError) → Fits text → e.text ≡ length text → after ≡ overlaid text before → 192 ≤ length before → FitsIn after e
  fits_in text before after e f s o room =
      let whole : after ≡ text ++ drop (length text) before = o ∙ ap (λ (xs : List ℕ). xs ++ drop (length text) before) (take_all (length before) text (omega (arith, f.short))) in
      record {
        short = omega (arith, f.short);
        within = omega (arith, ap length whole, length-append text (drop (length text) before));
        no_zero = ap (all (λ (i : ℕ). ltb 0 i)) (laid_over text before after e f s o room) ∙ f.no_zero;
      }

  -- a step that is not refused is one of a client that is there and lives, with room for a text
  record Taken (k : Client) : Type 0 where
    there : client_at w c ≡ Some k
    lives : is_live k.state ≡ true
    room : 192 ≤ length b.text

  taken : (k : Client) → step_check c b w ≡ Ok k → Taken k
  taken k q =
      let roomy_first = passed (unless (roomy b) BadSize) _ k q in
      let free = passed (unless (is_free w.engine.outstanding) TicketOutstanding) _ k roomy_first.2 in
      let here = passed (the_client w c) _ k free.2 in
      let living = passed (unless (is_live here.0.state) ClientKilled) _ k here.2 in
      let room = and_parts (not (ltb (length b.text) 192)) (not (ltb (length b.body) 4096)) (required (roomy b) BadSize roomy_first.0 roomy_first.1) in
      let same = ok_is here.0 k living.2 in
      record {
        there = the_client_lem w c here.0 here.1 ∙ ap (λ (a : Client). Some a) same;
        lives = ap (λ (a : Client). is_live a.state) (sym same) ∙ required (is_live here.0.state) ClientKilled living.0 living.1;
        room = ltb-false (length b.text) 192 (not-true (ltb (length b.text) 192) room.0);
      }

  -- what a failure leaves
  module _ (k : Client) (ok : Taken k) (e : StepError) (r : Stepped) (f : Failure (seat c k (from w)) b.text e r.buffers.text r.seat) where
    abbrev event : EventModel
    event = error_event 1 (number_of_error (code_of e.fault)) f.text

    offered : r.seat ≡ kill (blame e) (flush (offer event f.at))
    offered =
        f.told
        ∙ ap (λ (x : Seat). kill (blame e) (flush x))
        (cond-true (is_live f.at.client.state) (offer event f.at) f.at (ap is_live f.sound.state ∙ ok.lives))

    kept_serial : r.seat.client.serial ≡ k.serial
    kept_serial = ap (λ (x : Seat). x.client.serial) f.told ∙ (tell_same event f.at ∙ f.sound.serial)

    named_in_buffer : error_told e r.buffers.text ≡ event
    named_in_buffer = ap (error_event 1 (number_of_error (code_of e.fault))) (laid_over f.text b.text r.buffers.text e f.fits f.size f.over ok.room)

    closing : (a : Result (Unit {0}) WriteError) → write_answer event f.at.line ≡ a
        → Closing c (heard a (error_told e r.buffers.text)) (struck (blame e) (lost a k).state) (step_run c w r)
    closing a is = record {
      acts = (
        f.at.acts ++ [],
        acts_own c r.seat.acts [] ∙ (ap (λ (x : Seat). x.acts ++ []) offered
            ∙ (ap (λ (v : Result (Unit {0}) WriteError). act_flushed ∷ heard v event ∷ (f.at.acts ++ [])) is ∙ ap (λ (v : EventModel). act_flushed ∷ heard a v ∷ (f.at.acts ++ [])) (sym named_in_buffer))),
      );
      carried = ap (λ (l : Line). l.events) (cond-true (eqb c.place c.place) r.seat.line (w.lines c.place) (eq-eqb c.place c.place refl)) ∙ ap (λ (x : Seat). x.line.events) offered;
      state = λ q there. ap (λ (x : Client). x.state) (some_is q r.seat.client (sym there ∙ client_same w c k ok.there r.seat.client kept_serial))
          ∙ (ap (λ (x : Seat). x.client.state) offered
          ∙ (ap (λ (v : Result (Unit {0}) WriteError). struck (blame e) (lost v f.at.client).state) is
          ∙ after_lost a));
    }
      where
        after_lost : (v : Result (Unit {0}) WriteError) → struck (blame e) (lost v f.at.client).state
            ≡ struck (blame e) (lost v k).state
        after_lost (Ok u) = ap (struck (blame e)) f.sound.state
        after_lost (Err x) = ap (λ (y : ClientState). struck (blame e) (struck ConnectionClosed y)) f.sound.state

    tells : TellsError c e r.buffers.text w (step_run c w r)
    tells = record {
      taken = λ some. subst (λ (s : ClientState). Closing c (took (error_told e r.buffers.text)) s (step_run c w r))
          (ap (struck (blame e)) (live_is k.state ok.lives))
          (closing (Ok tt) (answer_taken event f.at.line (error_sendable (number_of_error (code_of e.fault)) f.text f.fits) (omega (arith, f.sound.allowance))));
      refused = λ none. subst (λ (s : ClientState). Closing c (refused (error_told e r.buffers.text)) s (step_run c w r))
          (ap (λ (y : ClientState). struck (blame e) (struck ConnectionClosed y)) (live_is k.state ok.lives))
          (closing (Err Refused) (answer_refused event f.at.line (f.sound.allowance ∙ none)));
    }

  by_check : (r : Result Client Refusal) → step_check c b w ≡ r → (e : StepError) → (checked step_answer r w (step_act t c b w)).answer ≡ step_answer (Ok (Failed e))
      → FitsIn (buffers_in t c b w r).text e × TellsError c e (buffers_in t c b w r).text w (checked step_answer r w (step_act t c b w)).run
  by_check (Err f) q e a = let y : ◌≡◌ {A = ℕ} 0 1 = cc in absurd (omega arith)
  by_check (Ok k) q e a =
      let same : (step_of t c b w k).answer ≡ Failed e = cc in
      let ok = taken k q in
      let z = seat c k (from w) in
      let told : Told z b (step_of t c b w k)
      = stepped_told (record { terms = t; registry = w.engine.registry; client = c }) z lawful n.since (front (w.lines c.place).requests) (w.lines c.place).broken n.request z refl
      (λ id o there. n.versions k id o ok.there there) b (record { state = refl; serial = refl; allowance = refl }) in
      let r = step_of t c b w k in
      let f : Failure z b.text e r.buffers.text r.seat = subst (λ (a : StepAnswer). Says z b.text a r.buffers.text r.seat) same told in
      (fits_in f.text b.text r.buffers.text e f.fits f.size f.over ok.room, tells k ok e r f)

pub texts_fit : TextsFit
texts_fit t lawful c b w n e a = (by_check t lawful c b w n (step_check c b w) refl e a).0

pub failures_are_told : FailuresAreTold
failures_are_told t lawful c b w n e a = (by_check t lawful c b w n (step_check c b w) refl e a).1
