-- A step: whatever the first request is, the client's books are kept, and a ticket is handed out exactly where one is outstanding after it.
use Rattle.std.proofs.Common.{◌≡◌, ℕ, zero, suc, ◌+◌, ◌<◌, ◌≤◌, true, cond, eqb, ltb, ◌≢◌, List, [], ◌∷◌, ◌++◌, length, set, Some, None, Ok, Err, Option, Result, sym, refl, ap, ◌∙◌, subst, inr, arith}
use Rattle.std.proofs.lemmas.Bool.{cond_both, eqb-false}
use Rattle.std.specs.List.{slice_get}
use Rattle.places.specs.Places.{places_new}
use Rattle.map.specs.declared.DataMark.TheVariants.{Own, Awaited}
use Rattle.map.specs.declared.fault.MapFault.{MapFault}
use Rattle.map.specs.declared.Object.{Object}
use Rattle.map.specs.declared.ObjectData.{ObjectData}
use Rattle.map.specs.declared.ObjectMap.{ObjectMap}
use Rattle.map.specs.Map.{find_in, insert_answer, inserted}
use Rattle.protocol.specs.Kinds.{is_new_id}
use Rattle.protocol.specs.Lawful.{Lawful}
use Rattle.protocol.specs.Meaning.{request_in, request_of}
use Rattle.protocol.specs.Model.{MessageModel, RowModel}
use Rattle.protocol.specs.Tallies.{count}
use Rattle.protocol.specs.declared.argument.Argument.{Argument}
use Rattle.message.specs.declared.part.Part.{Part}
use Rattle.wire.specs.declared.answers.Head.{Head}
use Rattle.wire.specs.declared.answers.Head.TheVariants as head
use Rattle.wire.specs.Line.{Content, read_after, reads, write_answer}
use Rattle.backend.specs.declared.ids.ClientId.{ClientId}
use Rattle.backend.specs.declared.ids.ObjectId.{ObjectId}
use Rattle.backend.specs.declared.client.DisconnectReason.TheVariants.{ConnectionClosed}
use Rattle.backend.specs.declared.registry.Global.{Global}
use Rattle.backend.specs.declared.ticket.Bound.{Bound}
use Rattle.backend.specs.declared.ticket.Origin.{Origin}
use Rattle.backend.specs.declared.answers.StepAnswer.{StepAnswer}
use Rattle.backend.specs.Faults.{code_of, number_of_error}
use Rattle.backend.specs.Events.{done_event, global_event}
use Rattle.backend.specs.Texts.{name_in}
use Rattle.backend.specs.World.{Terms, is_live}
use Rattle.backend.specs.Acts.{Act, Seat, offer, fresh, new_object, enter, draw, end}
use Rattle.backend.specs.Registries.{roll_end, visible, announce, announce_all}
use Rattle.backend.specs.Reading.{BindAsked, only_new_id, bind_arguments}
use Rattle.backend.specs.Arguments.{Asked, Failing, Walked, walk}
use Rattle.backend.specs.Requests.{Buffers, Stepped, Place, quiet, failed, hand_plain, hand_making, synced, enlisted, registered, displayed, bind_entered, bind_to, bind_named, bound, hand_out, concluded, asked, origin_of, dispatched, received_at, filled, read_in, of_message, of_sender, stepped}
use Rattle.accounts.specs.Shown.{step_papers, ticket_of, child_of, Paper}
use Rattle.accounts.specs.Accounts.{Paired, goes_out}
use Rattle.accounts.proofs.Books.{Alive, Entry, not_vacant}
use Rattle.accounts.proofs.Maps.{insert_entry}
use Rattle.accounts.proofs.Seats.{Good, later_good, killed_good, tell_good, offer_good, received_good, fail_free, end_good, draw_good, enter_good, not_display, lost_map, quiet_opcode}
use Rattle.accounts.proofs.Walks.{walk_good}
use Rattle.accounts.proofs.Kept.{Roll, Sender}

-- The roll with one more that is not a display.

roll_set : (xs : List (Option ObjectId)) (i : ℕ) (x : ObjectId) → x.id ≢ 1 → Roll xs → Roll (set xs i (Some x))
roll_set [] i x ne r = tt
roll_set (None ∷ xs) zero x ne r = (ne, r)
roll_set (Some y ∷ xs) zero x ne r = (ne, r.1)
roll_set (None ∷ xs) (suc i) x ne r = roll_set xs i x ne r
roll_set (Some y ∷ xs) (suc i) x ne r = (r.0, roll_set xs i x ne r.1)

enrolled_roll : (v : Option ℕ) (xs : List (Option ObjectId)) (x : ObjectId) → x.id ≢ 1 → Roll xs → Roll (places_new v xs x)
enrolled_roll None xs x ne r = r
enrolled_roll (Some i) xs x ne r = roll_set xs i x ne r

pub record StepGood (p : Place) (n : ℕ) (before : List Act) (r : Stepped) : Type 0 where
  pub good : Good (child_of (ticket_of r.outstanding)) p.client (suc n) before r.seat
  pub roll : Roll p.registry.roll → Roll r.roll
  pub sender : Sender r.outstanding
  pub papers : (ps : List Paper) → Paired ps None → Paired (step_papers r.answer ++ ps) (ticket_of r.outstanding)

-- Announcing a global concerns no number.
pub announce_good : {v : Option ObjectId} {c : ClientId} {n : ℕ} {before : List Act} (t : Terms) (x : ObjectId) (name : ℕ) (g : Global) (s : Seat)
    → Good v c n before s → Good v c n before (announce t x name g s)
announce_good {v} {c} {n} {before} t x name g s k =
    cond_both (visible t x.client s.client name g) _ _ (λ (q : Seat). Good v c n before q)
    (λ _. tell_good (global_event x.id name (name_in t.rows g.row) g.version) (quiet_opcode (global_event x.id name (name_in t.rows g.row) g.version) refl) s k) (λ _. k)

announce_all_good : {v : Option ObjectId} {c : ClientId} {n : ℕ} {before : List Act} (t : Terms) (x : ObjectId) (name : ℕ) (gs : List (Option Global)) (s : Seat)
    → Good v c n before s → Good v c n before (announce_all t x name gs s)
announce_all_good t x name [] s k = k
announce_all_good t x name (None ∷ gs) s k = announce_all_good t x (name + 1) gs s k
announce_all_good {v} {c} {n} {before} t x name (Some g ∷ gs) s k =
    announce_all_good t x (name + 1) gs (cond g.disabled s (announce t x name g s))
    (cond_both g.disabled s (announce t x name g s) (λ (q : Seat). Good v c n before q) (λ _. k) (λ _. announce_good t x name g s k))

module _ (p : Place) {n : ℕ} {before : List Act} where
  quiet_good : (a : StepAnswer) → step_papers a ≡ [] → (s : Seat) (b : Buffers) → Good None p.client (suc n) before s → StepGood p n before (quiet p a s b)
  quiet_good a none s b g = record {
    good = g;
    roll = λ r. r;
    sender = tt;
    papers = λ ps d. subst (λ (qs : List Paper). Paired (qs ++ ps) None) (sym none) d;
  }

  failed_good : {v : Option ObjectId} (f : Failing) (made : Option ObjectId) (s : Seat) (b : Buffers) → Good v p.client (suc n) before s → StepGood p n before (failed p f made s b)
  failed_good f made s b g = record {
    good = fail_free None (number_of_error (code_of f.fault)) 1 1 f.text s g;
    roll = λ r. r;
    sender = tt;
    papers = λ ps d. d;
  }

  plain_good : (o : Origin) (os : List (Option ObjectId)) (s : Seat) (b : Buffers) → o.sender.id ≢ 1 → Good None p.client (suc n) before s → StepGood p n before (hand_plain p o os s b)
  plain_good o os s b ne g = record { good = g; roll = λ r. r; sender = ne; papers = λ ps d. goes_out _ d }

  making_good : (o : Origin) (child : ObjectId) (at : Option Bound) (os : List (Option ObjectId)) (s : Seat) (b : Buffers) → o.sender.id ≢ 1 → Good (Some child) p.client (suc n) before s
      → StepGood p n before (hand_making p o child at os s b)
  making_good o child at os s b ne g = record { good = g; roll = λ r. r; sender = ne; papers = λ ps d. goes_out _ d }

  out_good : (o : Origin) (v : Option ObjectId) (os : List (Option ObjectId)) (s : Seat) (b : Buffers) → o.sender.id ≢ 1 → Good v p.client (suc n) before s → StepGood p n before (hand_out p o v os s b)
  out_good o None os s b ne g = plain_good o os s b ne g
  out_good o (Some child) os s b ne g = making_good o child None os s b ne g

  concluded_good : (o : Origin) (f : Option Failing) (r : Walked) (b : Buffers) → o.sender.id ≢ 1 → Good r.child p.client (suc n) before r.seat → StepGood p n before (concluded p o f r b)
  concluded_good o (Some f) r b ne g = failed_good f r.child r.seat b g
  concluded_good o None r b ne g = out_good o r.child r.objects r.seat b ne g

  -- a client that takes a step is live
  module _ (h : n < 4294967295) (s : Seat) (b : Buffers) (g : Good None p.client n before s) (l : is_live s.client.state ≡ true) where
    synced_good : (id : ℕ) (r : Result (Unit {0}) MapFault) → insert_answer s.client.map id ≡ r → StepGood p n before (synced p id r s b)
    synced_good id (Err f) e = failed_good _ None (draw s) b (draw_good h s g)
    synced_good id (Ok u) e = quiet_good _ refl (end x Own s2) b (end_good x Own refl s2 g2 alive (inr (not_display h s g l id entry.vacant)))
      where
        entry : Entry s.client.map id (new_object 3 1 Own s.client) (inserted s.client.map id (new_object 3 1 Own s.client))
        entry = insert_entry s.client.map id (new_object 3 1 Own s.client) e

        x : ObjectId
        x = fresh p.client id 3 s.client

        s1 : Seat
        s1 = enter p.client id 3 1 Own s

        g1 : Good None p.client (suc n) before s1
        g1 = enter_good h s g l id 3 1 Own e None (λ y q. q) (λ q. let z : ◌≡◌ {A = ℕ} 0 1 = cc in absurd (omega arith))

        s2 : Seat
        s2 = offer (done_event id) s1

        g2 : Good None p.client (suc n) before s2
        g2 = offer_good (done_event id) (quiet_opcode (done_event id) refl) s1 g1

        alive : Alive x (Some s2.client)
        alive = (new_object 3 1 Own s.client, ap (λ (m : ObjectMap ObjectData). find_in m id) (lost_map (write_answer (done_event id) s1.line) s1.client) ∙ entry.there, refl, refl)

    enlisted_good : (id : ℕ) → insert_answer s.client.map id ≡ Ok tt → (v : Option ℕ) → StepGood p n before (enlisted p id v s b)
    enlisted_good id e None = failed_good _ None (draw s) b (draw_good h s g)
    enlisted_good id e (Some i) =
        let x = fresh p.client id 2 s.client in
        record {
          good = announce_all_good p.terms x 1 p.registry.globals.places (enter p.client id 2 1 Own s)
              (enter_good h s g l id 2 1 Own e None (λ y q. q) (λ q. let z : ◌≡◌ {A = ℕ} 0 1 = cc in absurd (omega arith)));
          roll = λ r. enrolled_roll (roll_end p.registry.roll) p.registry.roll x (not_display h s g l id (insert_entry s.client.map id (new_object 2 1 Own s.client) e).vacant) r;
          sender = tt;
          papers = λ ps d. d;
        }

    registered_good : (id : ℕ) (r : Result (Unit {0}) MapFault) → insert_answer s.client.map id ≡ r → StepGood p n before (registered p id r s b)
    registered_good id (Err f) e = failed_good _ None (draw s) b (draw_good h s g)
    registered_good id (Ok u) e = enlisted_good id e (roll_end p.registry.roll)

    displayed_good : (opcode : ℕ) (v : Option ℕ) → StepGood p n before (displayed p opcode v s b)
    displayed_good opcode None = failed_good _ None s b (later_good s g)
    displayed_good opcode (Some id) =
        cond_both (eqb opcode 0) _ _ (StepGood p n before) (λ _. synced_good id (insert_answer s.client.map id) refl) (λ _. registered_good id (insert_answer s.client.map id) refl)

    module _ (o : Origin) (ne : o.sender.id ≢ 1) where
      bind_entered_good : (name version id : ℕ) (x : Global) (r : Result (Unit {0}) MapFault) → insert_answer s.client.map id ≡ r → StepGood p n before (bind_entered p o name version id x r s b)
      bind_entered_good name version id x (Err f) e = failed_good _ None (draw s) b (draw_good h s g)
      bind_entered_good name version id x (Ok u) e =
          making_good o (fresh p.client id x.row s.client) _ (None ∷ None ∷ None ∷ Some (fresh p.client id x.row s.client) ∷ []) (enter p.client id x.row version Awaited s) b ne
          (enter_good h s g l id x.row version Awaited e (Some (fresh p.client id x.row s.client)) (λ y q. let z : ◌≡◌ {A = ℕ} 0 1 = cc in absurd (omega arith)) (λ q. refl))

      bind_to_good : (name : ℕ) (interface : List ℕ) (version id : ℕ) (x : Option Global) → StepGood p n before (bind_to p o name interface version id x s b)
      bind_to_good name interface version id None = failed_good _ None s b (later_good s g)
      bind_to_good name interface version id (Some x) = bind_entered_good name version id x (insert_answer s.client.map id) refl

      bind_named_good : (name : ℕ) (text : Option Part) (version id : ℕ) → StepGood p n before (bind_named p o name text version id s b)
      bind_named_good name None version id = failed_good _ None s b (later_good s g)
      bind_named_good name (Some text) version id = bind_to_good name _ version id _

      bound_good : (a : Option (BindAsked Part)) → StepGood p n before (bound p o a s b)
      bound_good None = failed_good _ None s b (later_good s g)
      bound_good (Some a) = bind_named_good a.name a.interface a.version a.new_id

      asked_good : (x : Object ObjectData) (m : MessageModel) (as' : List (Argument ℕ Part)) → count is_new_id m.kinds ≤ 1 → o.sender.client ≡ p.client → StepGood p n before (asked p o x m as' s b)
      asked_good x m as' few mine =
          cond_both (ltb x.version m.since) _ _ (StepGood p n before) (λ _. failed_good _ None s b (later_good s g))
          (λ _. concluded_good o r.fault r b ne (subst (λ (c : ClientId). Good r.child c (suc n) before r.seat) mine
          (walk_good p.terms q h m.kinds as' m.rows s few (subst (λ (c : ClientId). Good None c n before s) (sym mine) g) l)))
        where
          q : Asked
          q = record { sender = o.sender; version = x.version; message = m }

          r : Walked
          r = walk p.terms q 0 m.kinds as' None m.rows s

    -- a sender whose row is not the display's is not the display
    sender_not_one : (id : ℕ) (x : Object ObjectData) → find_in s.client.map id ≡ Some x → x.row ≢ 1 → id ≢ 1
    sender_not_one id x there ne q = ne (g.books.state.display_row x (ap (find_in s.client.map) (sym q) ∙ there))

pub one_new_id : (rows : List RowModel) → Lawful rows → (row opcode : ℕ) (m : MessageModel) → request_in rows row opcode ≡ Some m → count is_new_id m.kinds ≤ 1
one_new_id rows lawful row opcode m e = go (slice_get rows row) refl e
  where
    go : (r : Option RowModel) → slice_get rows row ≡ r → request_of r opcode ≡ Some m → count is_new_id m.kinds ≤ 1
    go None q f = absurd (not_vacant None m f refl)
    go (Some r) q f = ((lawful.sound row r q).requests opcode m f).one_new_id

module _ (p : Place) {n : ℕ} {before : List Act} (lawful : Lawful p.terms.rows) (h : n < 4294967295) where
  -- the row is neither the display's nor a registry's, or one of these
  dispatched_good : (s : Seat) (b : Buffers) → Good None p.client n before s → is_live s.client.state ≡ true → (id opcode : ℕ) (x : Object ObjectData) → find_in s.client.map id ≡ Some x
      → (m : MessageModel) → count is_new_id m.kinds ≤ 1 → (as' : List (Argument ℕ Part)) → StepGood p n before (dispatched p (origin_of p.client id opcode x m) x m as' s b)
  dispatched_good s b g l id opcode x there m few as' =
      cond_both (eqb x.row 1) _ _ (StepGood p n before) (λ _. displayed_good p h s b g l opcode (only_new_id as'))
      (λ f.
      let ne = sender_not_one p h s b g l id x there (eqb-false x.row 1 f) in
      cond_both (eqb x.row 2) _ _ (StepGood p n before) (λ _. bound_good p h s b g l (origin_of p.client id opcode x m) ne (bind_arguments as'))
      (λ _. asked_good p h s b g l (origin_of p.client id opcode x m) ne x m as' few refl))

  read_good : (s : Seat) (b : Buffers) → Good None p.client n before s → is_live s.client.state ≡ true → (id opcode : ℕ) (x : Object ObjectData) → find_in s.client.map id ≡ Some x
      → (m : MessageModel) → count is_new_id m.kinds ≤ 1 → (c : Option Content) → StepGood p n before (read_in p (origin_of p.client id opcode x m) x m c s b)
  read_good s b g l id opcode x there m few None = failed_good p _ None s b (later_good s g)
  read_good s b g l id opcode x there m few (Some c) =
      dispatched_good (received_at m s b) (filled c b) (received_good (read_after (length b.body) m.kinds s.line) s g) l id opcode x there m few c.arguments

  message_good : (s : Seat) (b : Buffers) → Good None p.client n before s → is_live s.client.state ≡ true → (id opcode : ℕ) (x : Object ObjectData) → find_in s.client.map id ≡ Some x
      → (m : Option MessageModel) → request_in p.terms.rows x.row opcode ≡ m → StepGood p n before (of_message p id opcode x m s b)
  message_good s b g l id opcode x there None e = failed_good p _ None s b (later_good s g)
  message_good s b g l id opcode x there (Some m) e = read_good s b g l id opcode x there m (one_new_id p.terms.rows lawful x.row opcode m e) (reads (length b.body) m.kinds s.line)

  sender_good : (s : Seat) (b : Buffers) → Good None p.client n before s → is_live s.client.state ≡ true → (id opcode : ℕ) (x : Option (Object ObjectData)) → find_in s.client.map id ≡ x
      → StepGood p n before (of_sender p id opcode x s b)
  sender_good s b g l id opcode None e = failed_good p _ None s b (later_good s g)
  sender_good s b g l id opcode (Some x) e = message_good s b g l id opcode x e (request_in p.terms.rows x.row opcode) refl

  pub stepped_good : (d : Head) (s : Seat) (b : Buffers) → Good None p.client n before s → is_live s.client.state ≡ true → StepGood p n before (stepped p d s b)
  stepped_good head.Nothing s b g l = quiet_good p _ refl s b (later_good s g)
  stepped_good head.Broken s b g l = quiet_good p _ refl _ b (killed_good ConnectionClosed s (later_good s g))
  stepped_good (head.Request id opcode) s b g l = sender_good s b g l id opcode (find_in s.client.map id) refl
