-- A client in its place: each part of a call keeps its books, its numbers' turns, and which of its objects wait for data.
use Rattle.std.proofs.Common.{◌≡◌, ℕ, suc, ◌<◌, ◌≤◌, true, false, ◌&&◌, eqb, ltb, ◌≢◌, ◌⊎◌, List, ◌∷◌, ◌++◌, is_some, Some, None, Ok, Err, Result, Option, sym, refl, ap, ◌∙◌, subst, inl, inr, ⊎_elim, arith}
use Rattle.std.proofs.lemmas.Bool.{cases_eq, both_ways, cond_both, cond-false, and_left, and_right, ltb-false}
use Rattle.map.specs.declared.DataMark.{DataMark}
use Rattle.map.specs.declared.DataMark.TheVariants.{Awaited}
use Rattle.map.specs.declared.Object.{Object}
use Rattle.map.specs.declared.ObjectData.{ObjectData}
use Rattle.map.specs.declared.ObjectMap.{ObjectMap}
use Rattle.map.specs.Map.{limit, find_in, insert_answer, inserted, removed}
use Rattle.message.specs.Events.{EventModel}
use Rattle.wire.specs.Line.{Line, write_answer, written}
use Rattle.wire.specs.declared.answers.WriteError.{WriteError}
use Rattle.backend.specs.declared.ids.ClientId.{ClientId}
use Rattle.backend.specs.declared.ids.ObjectId.{ObjectId}
use Rattle.backend.specs.declared.client.Client.{Client}
use Rattle.backend.specs.declared.client.ClientState.{ClientState}
use Rattle.backend.specs.declared.client.ClientState.TheVariants.{Live, Untold, Told}
use Rattle.backend.specs.declared.client.DisconnectReason.{DisconnectReason}
use Rattle.backend.specs.declared.client.DisconnectReason.TheVariants.{ConnectionClosed, ProtocolError}
use Rattle.backend.specs.declared.client.End.{End}
use Rattle.backend.specs.World.{is_live, with_map, drawn, next_serial}
use Rattle.backend.specs.Events.{error_event, delete_id}
use Rattle.backend.specs.Acts.{Act, entered, ended, took, refused, received, flushed, Seat, struck, killed, kill, lost, heard, offer, tell, flush, fail, fresh, new_object, enter, draw, remove, end}
use Rattle.accounts.specs.Accounts.{only_uint, deletes, delete_side, sides}
use Rattle.accounts.proofs.Books.{Alive, Books, Entry, Marked, some_is, not_vacant, later, same_books, state_books, draws_books, enters_books, ends_books, marks_books}
use Rattle.accounts.proofs.Turns.{Standing, Turns, stands_less, enter_turn, end_turn, remove_turn, mark_turn}
use Rattle.accounts.proofs.Maps.{insert_entry, remove_gone}

-- the handle of an object of a client
abbrev pub handle_for : ClientId → ℕ → Object ObjectData → ObjectId
handle_for c id o = record { client = c; id = id; serial = o.«data».serial; row = o.row }

-- a live object without data is this one, or its client is killed
abbrev pub Waits : Option ObjectId → ClientId → Client → Type 0
Waits v c k = (id : ℕ) (o : Object ObjectData) → is_live k.state ≡ true → find_in k.map id ≡ Some o → o.«data».mark ≡ Awaited → v ≡ Some (handle_for c id o)

-- all that is kept of a client in its place, on top of what was done to it before this call
pub record Good (v : Option ObjectId) (c : ClientId) (n : ℕ) (before : List Act) (s : Seat) : Type 0 where
  pub books : Books c n (s.acts ++ before) (Some s.client)
  pub turns : Turns (s.acts ++ before) (Some s.client)
  pub waits : Waits v c s.client
  pub agrees : s.client.serial ≡ c.serial

pub struck_dead : (r : DisconnectReason) (s : ClientState) → is_live (struck r s) ≡ false
struck_dead r Live = refl
struck_dead r (Untold q) = refl
struck_dead r Told = refl

-- an event that says of no number that it may be used again
abbrev pub Quiet : EventModel → Type 0
Quiet e = deletes e ≡ None

abbrev told_end : ObjectId → DataMark → End
told_end x mark = record { object = x; mark = mark }

waits_removed : (v : Option ObjectId) (c : ClientId) (x : ObjectId) (k : Client) (o : Object ObjectData) → find_in k.map x.id ≡ Some o → Waits v c k → Waits v c (with_map (removed k.map x.id) k)
waits_removed v c x k o lives w id p l f a =
    let g = remove_gone k.map x.id o lives in
    ⊎_elim (λ q. absurd (not_vacant (find_in (removed k.map x.id) id) p f (ap (find_in (removed k.map x.id)) q ∙ g.none)))
    (λ q. w id p l (sym (g.others id q) ∙ f) a) (cases_eq id x.id)

module _ {v : Option ObjectId} {c : ClientId} {n : ℕ} {before : List Act} where
  -- the line is no part of it
  pub relined : (s : Seat) (l : Line) → Good v c n before s → Good v c n before (record { client = s.client; line = l; acts = s.acts })
  relined s l g = record { books = g.books; turns = g.turns; waits = g.waits; agrees = g.agrees }

  pub killed_good : (r : DisconnectReason) (s : Seat) → Good v c n before s → Good v c n before (kill r s)
  killed_good r s g =
      let dead = struck_dead r s.client.state in
      record {
        books = state_books c n (s.acts ++ before) s.client g.books (struck r s.client.state) (λ l. absurd (both_ways (is_live (struck r s.client.state)) dead l));
        turns = λ u i below. stands_less (find_in s.client.map i) (is_live s.client.state) (is_live (struck r s.client.state)) (sides i (s.acts ++ before))
            (λ l. absurd (both_ways (is_live (struck r s.client.state)) dead l)) (g.turns u i below);
        waits = λ id o l. absurd (both_ways (is_live (struck r s.client.state)) dead l);
        agrees = g.agrees;
      }

  pub took_good : (e : EventModel) (l : Line) → Quiet e → (s : Seat) → Good v c n before s → Good v c n before (record { client = s.client; line = l; acts = took e ∷ s.acts })
  took_good e l q s g = record {
    books = same_books (s.acts ++ before) (took e ∷ s.acts ++ before) refl refl g.books;
    turns = λ u i below. subst (λ (d : Option ℕ). Standing (Some s.client) i (delete_side i d (sides i (s.acts ++ before)))) (sym q) (g.turns u i below);
    waits = g.waits;
    agrees = g.agrees;
  }

  -- a refused write kills
  pub refused_good : (e : EventModel) (l : Line) (s : Seat) → Good v c n before s → Good v c n before (record { client = killed ConnectionClosed s.client; line = l; acts = refused e ∷ s.acts })
  refused_good e l s g =
      let k = killed_good ConnectionClosed s g in
      record { books = same_books (s.acts ++ before) (refused e ∷ s.acts ++ before) refl refl k.books; turns = λ u. absurd u; waits = k.waits; agrees = g.agrees }

  offered : (w : Result (Unit {0}) WriteError) (e : EventModel) (l : Line) → Quiet e → (s : Seat) → Good v c n before s → Good v c n before (record { client = lost w s.client; line = l; acts = heard w e ∷ s.acts })
  offered (Ok u) e l q s g = took_good e l q s g
  offered (Err r) e l q s g = refused_good e l s g

  pub offer_good : (e : EventModel) → Quiet e → (s : Seat) → Good v c n before s → Good v c n before (offer e s)
  offer_good e q s g = offered (write_answer e s.line) e (written e s.line) q s g

  pub tell_good : (e : EventModel) → Quiet e → (s : Seat) → Good v c n before s → Good v c n before (tell e s)
  tell_good e q s g = cond_both (is_live s.client.state) (offer e s) s (λ (q : Seat). Good v c n before q) (λ _. offer_good e q s g) (λ _. g)

  pub flush_good : (s : Seat) → Good v c n before s → Good v c n before (flush s)
  flush_good s g = record { books = same_books (s.acts ++ before) (flushed ∷ s.acts ++ before) refl refl g.books; turns = g.turns; waits = g.waits; agrees = g.agrees }

  pub received_good : (l : Line) (s : Seat) → Good v c n before s → Good v c n before (record { client = s.client; line = l; acts = received ∷ s.acts })
  received_good l s g = record { books = same_books (s.acts ++ before) (received ∷ s.acts ++ before) refl refl g.books; turns = g.turns; waits = g.waits; agrees = g.agrees }

  pub fail_good : (code object row : ℕ) (text : List ℕ) (s : Seat) → Good v c n before s → Good v c n before (fail code object row text s)
  fail_good code object row text s g =
      killed_good (ProtocolError (record { code = code; object = object; row = row })) (flush (tell (error_event object code text) s))
      (flush_good (tell (error_event object code text) s) (tell_good (error_event object code text) refl s g))

  -- Ends.
  module _ (x : ObjectId) (mark : DataMark) (mine : x.client ≡ c) where
    ended_books : (s : Seat) → Good v c n before s → (lives : Alive x (Some s.client)) → (is_live s.client.state ≡ false) ⊎ (x.id ≢ 1)
        → Books c n (ended (told_end x mark) ∷ s.acts ++ before) (Some (with_map (removed s.client.map x.id) s.client))
    ended_books s g lives spared =
        ends_books c n (s.acts ++ before) s.client g.books (told_end x mark) (removed s.client.map x.id) (remove_gone s.client.map x.id lives.0 lives.1) mine lives spared

    -- without delete_id: of a number of the server's half, or of a killed client
    pub remove_good : (s : Seat) → Good v c n before s → Alive x (Some s.client) → (is_live s.client.state ≡ false) ⊎ (x.id ≢ 1) → (is_live s.client.state ≡ false) ⊎ (limit ≤ x.id) → Good v c n before (remove x mark s)
    remove_good s g lives spared silent = record {
      books = ended_books s g lives spared;
      turns = λ u i below. remove_turn s.client.map (removed s.client.map x.id) (is_live s.client.state) x.id i (sides i (s.acts ++ before)) below
          (remove_gone s.client.map x.id lives.0 lives.1) silent (g.turns u i below);
      waits = waits_removed v c x s.client lives.0 lives.1 g.waits;
      agrees = g.agrees;
    }

    -- with a delete_id that was taken
    taken_good : (l : Line) (s : Seat) → Good v c n before s → Alive x (Some s.client) → (is_live s.client.state ≡ false) ⊎ (x.id ≢ 1)
        → Good v c n before (remove x mark (record { client = s.client; line = l; acts = took (delete_id x.id) ∷ s.acts }))
    taken_good l s g lives spared = record {
      books = same_books (ended (told_end x mark) ∷ s.acts ++ before) (ended (told_end x mark) ∷ took (delete_id x.id) ∷ s.acts ++ before) refl refl (ended_books s g lives spared);
      turns = λ u i below. end_turn s.client.map (removed s.client.map x.id) (is_live s.client.state) x.id i (sides i (s.acts ++ before)) below
          lives.0 lives.1 (remove_gone s.client.map x.id lives.0 lives.1) (g.turns u i below);
      waits = waits_removed v c x s.client lives.0 lives.1 g.waits;
      agrees = g.agrees;
    }

    -- with one that was refused
    lost_good : (l : Line) (s : Seat) → Good v c n before s → Alive x (Some s.client)
        → Good v c n before (remove x mark (record { client = killed ConnectionClosed s.client; line = l; acts = refused (delete_id x.id) ∷ s.acts }))
    lost_good l s g lives =
        let k = killed_good ConnectionClosed s g in
        let dead = struck_dead ConnectionClosed s.client.state in
        record {
          books = same_books (ended (told_end x mark) ∷ s.acts ++ before) (ended (told_end x mark) ∷ refused (delete_id x.id) ∷ s.acts ++ before) refl refl
              (ended_books (kill ConnectionClosed s) k lives (inl dead));
          turns = λ u. absurd u;
          waits = λ id o l f a. absurd (both_ways (is_live (struck ConnectionClosed s.client.state)) dead l);
          agrees = g.agrees;
        }

    end_offered : (w : Result (Unit {0}) WriteError) (l : Line) (s : Seat) → Good v c n before s → Alive x (Some s.client) → (is_live s.client.state ≡ false) ⊎ (x.id ≢ 1)
        → Good v c n before (remove x mark (record { client = lost w s.client; line = l; acts = heard w (delete_id x.id) ∷ s.acts }))
    end_offered (Ok u) l s g lives spared = taken_good l s g lives spared
    end_offered (Err r) l s g lives spared = lost_good l s g lives

    pub end_good : (s : Seat) → Good v c n before s → Alive x (Some s.client) → (is_live s.client.state ≡ false) ⊎ (x.id ≢ 1) → Good v c n before (end x mark s)
    end_good s g lives spared =
        cond_both (ltb x.id limit) (offer (delete_id x.id) s) s (λ (q : Seat). Good v c n before (remove x mark q))
        (λ _. end_offered (write_answer (delete_id x.id) s.line) (written (delete_id x.id) s.line) s g lives spared)
        (λ f. remove_good s g lives spared (inr (ltb-false x.id limit f)))

pub later_good : {v : Option ObjectId} {c : ClientId} {n : ℕ} {before : List Act} (s : Seat) → Good v c n before s → Good v c (suc n) before s
later_good s g = record { books = later (omega arith) g.books; turns = g.turns; waits = g.waits; agrees = g.agrees }

module _ {v : Option ObjectId} {c : ClientId} {n : ℕ} {before : List Act} (h : n < 4294967295) where
  pub draw_good : (s : Seat) → Good v c n before s → Good v c (suc n) before (draw s)
  draw_good s g = record { books = draws_books c n (s.acts ++ before) s.client g.books h; turns = g.turns; waits = g.waits; agrees = g.agrees }

  -- an entry at an id that is not the display's
  pub entry_good : (s : Seat) → Good v c n before s → (id row : ℕ) (o : Object ObjectData) (p : ObjectMap ObjectData) → Entry s.client.map id o p
      → o.«data».serial ≡ next_serial s.client → o.row ≡ row → id ≢ 1 → (is_live s.client.state ≡ true) ⊎ (limit ≤ id)
      → (u : Option ObjectId) → ((x : ObjectId) → v ≡ Some x → u ≡ Some x) → (o.«data».mark ≡ Awaited → u ≡ Some (handle_for c id o))
      → Good u c (suc n) before (record { client = with_map p (drawn s.client); line = s.line; acts = entered (fresh c id row s.client) ∷ s.acts })
  entry_good s g id row o p e serial_of row_of not_one ok u carry awaited = record {
    books = enters_books c n (s.acts ++ before) s.client g.books h id row o p e serial_of row_of not_one;
    turns = λ r i below. enter_turn s.client.map p (is_live s.client.state) id i (sides i (s.acts ++ before)) below o e ok (g.turns r i below);
    waits = λ i q l f a. ⊎_elim
        (λ r. let same : o ≡ q = some_is o q (sym e.there ∙ (ap (find_in p) (sym r) ∙ f)) in
        subst (λ (j : ℕ). u ≡ Some (handle_for c j q)) (sym r)
        (subst (λ (y : Object ObjectData). u ≡ Some (handle_for c id y)) same (awaited (ap (λ (y : Object ObjectData). y.«data».mark) same ∙ a))))
        (λ r. carry (handle_for c i q) (g.waits i q l (sym (e.others i r) ∙ f) a)) (cases_eq i id);
    agrees = g.agrees;
  }

  -- a live client has its display, so what is vacant is another id
  pub not_display : (s : Seat) → Good v c n before s → is_live s.client.state ≡ true → (id : ℕ) → find_in s.client.map id ≡ None → id ≢ 1
  not_display s g l id vacant q =
      both_ways (is_some (find_in s.client.map 1)) (ap is_some (ap (find_in s.client.map) (sym q) ∙ vacant)) (g.books.state.display_there l)

  -- an entry of a live client
  pub enter_good : (s : Seat) → Good v c n before s → is_live s.client.state ≡ true → (id row version : ℕ) (mark : DataMark) → insert_answer s.client.map id ≡ Ok tt
      → (u : Option ObjectId) → ((x : ObjectId) → v ≡ Some x → u ≡ Some x) → (mark ≡ Awaited → u ≡ Some (fresh c id row s.client))
      → Good u c (suc n) before (enter c id row version mark s)
  enter_good s g l id row version mark ok u carry awaited =
      let e = insert_entry s.client.map id (new_object row version mark s.client) ok in
      entry_good s g id row (new_object row version mark s.client) (inserted s.client.map id (new_object row version mark s.client)) e refl refl
      (not_display s g l id e.vacant) (inl l) u carry awaited

-- An object's data is set to something.
pub mark_good : {v : Option ObjectId} {c : ClientId} {n : ℕ} {before : List Act} (s : Seat) → Good v c n before s
    → (id : ℕ) (o q : Object ObjectData) (p : ObjectMap ObjectData) → Marked s.client.map id o q p → q.«data».mark ≢ Awaited
    → (u : Option ObjectId) → ((i : ℕ) (r : Object ObjectData) → i ≢ id → v ≡ Some (handle_for c i r) → u ≡ Some (handle_for c i r))
    → Good u c n before (record { client = with_map p s.client; line = s.line; acts = s.acts })
mark_good {v} {c} {n} {before} s g id o q p e has u carry = record {
  books = marks_books c n (s.acts ++ before) s.client g.books id o q p e;
  turns = λ r i below. mark_turn s.client.map p (is_live s.client.state) id i (sides i (s.acts ++ before)) below o q e (g.turns r i below);
  waits = λ i y l f a. ⊎_elim
      (λ r. let same : q ≡ y = some_is q y (sym e.there ∙ (ap (find_in p) (sym r) ∙ f)) in absurd (has (ap (λ (z : Object ObjectData). z.«data».mark) same ∙ a)))
      (λ r. carry i y r (g.waits i y l (sym (e.others i r) ∙ f) a)) (cases_eq i id);
  agrees = g.agrees;
}

-- of a killed client nothing is said to wait
pub dead_good : {v : Option ObjectId} {c : ClientId} {n : ℕ} {before : List Act} (u : Option ObjectId) (s : Seat) → is_live s.client.state ≡ false → Good v c n before s → Good u c n before s
dead_good u s dead g = record { books = g.books; turns = g.turns; waits = λ id o l f a. absurd (both_ways (is_live s.client.state) dead l); agrees = g.agrees }

pub fail_free : {v : Option ObjectId} {c : ClientId} {n : ℕ} {before : List Act} (u : Option ObjectId) (code object row : ℕ) (text : List ℕ) (s : Seat)
    → Good v c n before s → Good u c n before (fail code object row text s)
fail_free u code object row text s g =
    dead_good u (fail code object row text s)
    (struck_dead (ProtocolError (record { code = code; object = object; row = row })) (flush (tell (error_event object code text) s)).client.state) (fail_good code object row text s g)

-- a write leaves the objects
pub lost_map : (w : Result (Unit {0}) WriteError) (k : Client) → (lost w k).map ≡ k.map
lost_map (Ok u) k = refl
lost_map (Err r) k = refl

-- an event that is not opcode 1, or not of object 1, says of no number that it may be used again
pub quiet_opcode : (e : EventModel) → eqb e.opcode 1 ≡ false → Quiet e
quiet_opcode e f = cond-false (eqb e.sender 1 && eqb e.opcode 1) (only_uint e.arguments) None (and_right (eqb e.sender 1) (eqb e.opcode 1) f)

pub quiet_sender : (e : EventModel) → eqb e.sender 1 ≡ false → Quiet e
quiet_sender e f = cond-false (eqb e.sender 1 && eqb e.opcode 1) (only_uint e.arguments) None (and_left (eqb e.sender 1) (eqb e.opcode 1) f)
