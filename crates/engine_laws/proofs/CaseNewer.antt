-- A request that is newer than its object.
use Rattle.std.proofs.Common.{◌≡◌, ℕ, zero, suc, ◌+◌, ◌^◌, ◌%◌, ◌<◌, ◌≤◌, true, false, eqb, ltb, leb, List, [], ◌∷◌, ◌++◌, length, take, Some, None, Ok, Option, Result, sym, refl, ap, ◌∙◌, subst, length-append, arith}
use Rattle.std.proofs.lemmas.Bool.{cond-true, cond-false, ne_eqb, lt-ltb, le-leb, and_from, and_parts}
use Rattle.std.proofs.lemmas.Fmt.{decimal_by_steps, length-decimal-le}
use Rattle.std.proofs.lemmas.Option.{slice_get_within}
use Rattle.std.specs.Prelude.{codes, decimal}
use Rattle.std.specs.Option.{option_map}
use Rattle.std.specs.List.{slice_get}
use Rattle.map.specs.declared.DataMark.TheVariants.{Number}
use Rattle.map.specs.declared.Object.{Object}
use Rattle.map.specs.declared.ObjectData.{ObjectData}
use Rattle.map.specs.declared.ObjectMap.{ObjectMap}
use Rattle.map.specs.Map.{find_in, new_answer, new_after}
use Rattle.protocol.specs.declared.argument.Argument.{Argument}
use Rattle.protocol.specs.declared.refusal.Refusal.{Refusal}
use Rattle.protocol.specs.declared.refusal.Refusal.TheVariants.{NoClient, NoRow, NoVacancy}
use Rattle.protocol.specs.CoreRows.{core_rows, display, registry}
use Rattle.protocol.specs.Lawful.{Named, Lawful}
use Rattle.protocol.specs.Meaning.{heading_in, request_in, request_of}
use Rattle.protocol.specs.Model.{RowModel, MessageModel, Title, title_of}
use Rattle.protocol.specs.Tallies.{all}
use Rattle.protocol.specs.TalliesLemmas.{all_from}
use Rattle.message.specs.declared.part.Part.{Part}
use Rattle.message.specs.Events.{sendable}
use Rattle.backend.specs.Events.{error_event}
use Rattle.backend.specs.Texts.{name_in, name_of, invalid_method}
use Rattle.wire.specs.Line.{Line, Waiting, Content, head_of}
use Rattle.backend.specs.declared.ids.ClientId.{ClientId}
use Rattle.backend.specs.declared.client.Client.{Client}
use Rattle.backend.specs.declared.faults.StepFault.TheVariants.{TooNew}
use Rattle.backend.specs.World.{Terms, World, following}
use Rattle.backend.specs.Acts.{Seat, from, seat, resumed, fresh, new_object}
use Rattle.backend.specs.Checks.{passing, present, the_row}
use Rattle.backend.specs.Arguments.{Failing}
use Rattle.backend.specs.Calls.{Creating, roomy, create_seat, create_check, create_act}
use Rattle.backend.specs.Requests.{Buffers, stepped as stepped_by, failed, filled, origin_of, dispatched}
use Rattle.backend.specs.Perform.{create, created, checked, perform, Outcome}
use Rattle.accounts.specs.Histories.{gained}
use Rattle.accounts.proofs.Books.{some_is, not_vacant}
use Rattle.engine_laws.specs.Cases.{Asks, Fails, stepping}
use Rattle.engine_laws.proofs.CaseSits.{living, Sits, sits_resumed, place_of}
use Rattle.engine_laws.proofs.CaseFailing.{fails_so}
use Rattle.engine_laws.proofs.CaseAsked.{taken, emptied, reads_request, row_is}

-- Texts that a wire takes.

-- a text of at most so many bytes, none of them zero
pub record Short (n : ℕ) (x : List ℕ) : Type 0 where
  pub few : length x ≤ n
  pub no_zero : all (λ b. ltb 0 b) x ≡ true

all_joined : (x y : List ℕ) → all (λ b. ltb 0 b) x ≡ true → all (λ b. ltb 0 b) y ≡ true → all (λ b. ltb 0 b) (x ++ y) ≡ true
all_joined [] y p q = q
all_joined (a ∷ x) y p q = let s = and_parts (ltb 0 a) (all (λ b. ltb 0 b) x) p in and_from (ltb 0 a) (all (λ b. ltb 0 b) (x ++ y)) s.0 (all_joined x y s.1 q)

joined : {n m : ℕ} {x y : List ℕ} → Short n x → Short m y → Short (n + m) (x ++ y)
joined {n} {m} {x} {y} p q = record { few = omega (arith, p.few, q.few, length-append x y); no_zero = all_joined x y p.no_zero q.no_zero }

literal : (x : List ℕ) (n : ℕ) → length x ≤ n → all (λ b. ltb 0 b) x ≡ true → Short n x
literal x n le z = record { few = le; no_zero = z }

wrote : {m : ℕ} {y : List ℕ} → Short m y → (x : List ℕ) (n : ℕ) → length x ≤ n → all (λ b. ltb 0 b) x ≡ true → Short (m + n) (y ++ x)
wrote q x n le z = joined q (literal x n le z)

short_number : (k n : ℕ) → 0 < k → n < 10 ^ k → n < 2 ^ 64 → Short k (decimal n)
short_number k n p low small = record {
  few = length-decimal-le k n p low small;
  no_zero = decimal_by_steps (λ i ds. all (λ b. ltb 0 b) ds ≡ true) (λ i l. and_from (ltb 0 (48 + i)) true (lt-ltb 0 (48 + i) (omega arith)) refl)
      (λ i ds l q. all_joined ds ((48 + i % 10) ∷ []) q (and_from (ltb 0 (48 + i % 10)) true (lt-ltb 0 (48 + i % 10) (omega arith)) refl)) n small;
}

short_name : (bytes : List ℕ) → Named bytes → Short 32 bytes
short_name bytes w = record { few = w.short; no_zero = all_from (λ b. ltb 0 b) bytes (λ i x e. lt-ltb 0 x (w.no_zero i x e)) }

pub short_fits : (code : ℕ) (x : List ℕ) (n : ℕ) → n ≤ 256 → Short n x → sendable (error_event 1 code x) ≡ true
short_fits code x n le s =
    and_from (leb (0 + (0 + (length x + 0))) 256) _ (le-leb (0 + (0 + (length x + 0))) 256 (omega (arith, s.few))) (and_from (all (λ b. ltb 0 b) x) true s.no_zero refl)

-- The rows of a catalogue.

second_row : (rows : List RowModel) → take 4 rows ≡ core_rows → slice_get rows 2 ≡ Some registry
second_row [] e = let z : ◌≡◌ {A = ℕ} 0 1 = cc in absurd (omega arith)
second_row (a ∷ []) e = let z : ◌≡◌ {A = ℕ} 0 1 = cc in absurd (omega arith)
second_row (a ∷ b ∷ []) e = let z : ◌≡◌ {A = ℕ} 0 1 = cc in absurd (omega arith)
second_row (a ∷ b ∷ c ∷ rows) e = ap (λ (r : RowModel). Some r) (let s : c ≡ registry = cc in s)

-- the requests of the display and of a registry are of version 1

of_display : (opcode : ℕ) (m : MessageModel) → slice_get display.requests opcode ≡ Some m → m.since ≡ 2 → ⊥
of_display zero m e s = omega (arith, ap (λ (x : MessageModel). x.since) (some_is _ m e), s)
of_display (suc zero) m e s = omega (arith, ap (λ (x : MessageModel). x.since) (some_is _ m e), s)
of_display (suc (suc n)) m e s = not_vacant None m e refl

of_registry : (opcode : ℕ) (m : MessageModel) → slice_get registry.requests opcode ≡ Some m → m.since ≡ 2 → ⊥
of_registry zero m e s = omega (arith, ap (λ (x : MessageModel). x.since) (some_is _ m e), s)
of_registry (suc n) m e s = not_vacant None m e refl

module _ (rows : List RowModel) (lawful : Lawful rows) (row opcode : ℕ) (m : MessageModel) (has : request_in rows row opcode ≡ Some m) (since : m.since ≡ 2) where
  pub not_display : eqb row 1 ≡ false
  not_display = ne_eqb row 1 (λ z. of_display opcode m (sym (ap (λ (r : Option RowModel). request_of r opcode) (row_is rows lawful.begins)) ∙ (ap (λ (i : ℕ). request_in rows i opcode) (sym z) ∙ has)) since)

  pub not_registry : eqb row 2 ≡ false
  not_registry = ne_eqb row 2 (λ z. of_registry opcode m (sym (ap (λ (r : Option RowModel). request_of r opcode) (second_row rows lawful.begins)) ∙ (ap (λ (i : ℕ). request_in rows i opcode) (sym z) ∙ has)) since)

  -- the row is there, its name is short, and the opcode is below 16
  pub record Rowed : Type 0 where
    pub title : Title
    pub heading_is : heading_in rows row ≡ Some title
    pub named : Short 32 title.name
    pub few : opcode < 16

  pub rowed : Rowed
  rowed = go (slice_get rows row) refl has
    where
      go : (r : Option RowModel) → slice_get rows row ≡ r → request_of r opcode ≡ Some m → Rowed
      go None q f = absurd (not_vacant None m f refl)
      go (Some r) q f =
          let w = lawful.sound row r q in
          record { title = title_of r; heading_is = ap (λ (x : Option RowModel). option_map title_of x) q; named = short_name r.name w.named; few = omega (arith, w.few_requests, slice_get_within r.requests opcode m f) }

  pub fits : sendable (error_event 1 1 (invalid_method opcode 1 2 (name_in rows row) 0xFF00_0000)) ≡ true
  fits = short_fits 1 (invalid_method opcode 1 2 (name_in rows row) 0xFF00_0000) 83 (omega arith) (subst (λ (n : List ℕ). Short 83 (invalid_method opcode 1 2 n 0xFF00_0000)) (sym (ap name_of rowed.heading_is)) text)
    where
      text : Short 83 (invalid_method opcode 1 2 rowed.title.name 0xFF00_0000)
      text =
          joined
          (wrote
          (joined
          (wrote
          (joined
          (wrote
          (joined
          (wrote (joined (literal (codes "invalid method ") 15 (omega arith) refl) (short_number 2 opcode (omega arith) (omega (arith, rowed.few)) (omega (arith, rowed.few)))) (codes " (since ") 8 (omega arith) refl)
          (short_number 1 1 (omega arith) (omega arith) (omega arith)))
          (codes " < ") 3 (omega arith) refl)
          (short_number 1 2 (omega arith) (omega arith) (omega arith)))
          (codes "), object ") 10 (omega arith) refl)
          rowed.named)
          (codes "#") 1 (omega arith) refl)
          (short_number 10 0xFF00_0000 (omega arith) (omega arith) (omega arith))

-- An object of the server's half is created, and then asked.
module _ (t : Terms) (lawful : Lawful t.rows) {w : World} {c : ClientId} {serial d n : ℕ} {m : ObjectMap ObjectData} {l : Line} (s : Sits w c (living serial d n m) l) where
  module _ (row e id : ℕ) (title : Title) (there : heading_in t.rows row ≡ Some title) (next : new_answer m ≡ Some id) where
    abbrev k : Client
    k = living serial d n m

    abbrev object : Object ObjectData
    object = new_object row 1 (Number e) k

    abbrev seat_after : Seat
    seat_after = create_seat c id row 1 (Number e) (seat c k (from w))

    creates : perform t (create c row 1 e) w ≡ record { answer = created (Ok (fresh c id row k)); run = resumed c seat_after (from w) }
    creates = ap (λ (r : Result Creating Refusal). checked created r w (create_act c row 1 e w)) may
      where
        may : create_check t c row w ≡ Ok (record { client = k; id = id })
        may = ap (λ (v : Option Client). passing (present v NoClient) (λ (q : Client). passing (the_row t.rows row) (λ _. passing (present (new_answer q.map) NoVacancy) (λ i. Ok (record { client = q; id = i }))))) s.there
            ∙ (ap (λ (v : Option Title). passing (present v NoRow) (λ _. passing (present (new_answer m) NoVacancy) (λ i. Ok (record { client = k; id = i })))) there
            ∙ ap (λ (v : Option ℕ). passing (present v NoVacancy) (λ i. Ok (record { client = k; id = i }))) next)

    pub created_is : (perform t (create c row 1 e) w).answer ≡ created (Ok (fresh c id row k))
    created_is = ap (λ (o : Outcome). o.answer) creates

    pub sits_created : Sits (perform t (create c row 1 e) w).run.world c (living serial d (following n) (new_after m object)) l
    sits_created =
        let a = sits_resumed seat_after refl s in
        subst (λ (o : Outcome). Sits o.run.world c (living serial d (following n) (new_after m object)) l) (sym creates) (record { there = a.there; line_is = a.line_is ∙ s.line_is; free = a.free })

  -- an object of version 1 is asked for what only version 2 has
  module _ (room : eqb l.allowance 0 ≡ false) (none : l.requests ≡ []) (b : Buffers) (large : roomy b ≡ true) (r : Waiting) (row opcode : ℕ) (q : MessageModel) (has : request_in t.rows row opcode ≡ Some q) (since : q.since ≡ 2) where
    pub refuses_newer : (arguments : List (Argument ℕ Part)) → Asks r 0xFF00_0000 opcode q.kinds arguments → (o : Object ObjectData) → find_in m 0xFF00_0000 ≡ Some o → o.row ≡ row → o.version ≡ 1
        → Fails c TooNew 1 (invalid_method opcode 1 2 (name_in t.rows row) 0xFF00_0000) (stepping t c b r w)
    refuses_newer arguments a o lives row_here version_here =
        fails_so t s room b large r n failing (filled x.0 b)
        (x.1
        ∙ (cond-false (eqb o.row 1) _ _ (ap (λ (i : ℕ). eqb i 1) row_here ∙ not_display t.rows lawful row opcode q has since)
        ∙ (cond-false (eqb o.row 2) _ _ (ap (λ (i : ℕ). eqb i 2) row_here ∙ not_registry t.rows lawful row opcode q has since)
        ∙ (cond-true (ltb o.version q.since) _ _ (lt-ltb o.version q.since (omega (arith, version_here, since)))
        ∙ (λ i. failed (place_of t s) (record { fault = TooNew; text = invalid_method opcode (version_here i) (since i) (name_in t.rows (row_here i)) 0xFF00_0000 }) None
        (taken (living serial d n m) (emptied l)) (filled x.0 b))))))
        (fits t.rows lawful row opcode q has since)
      where
        failing : Failing
        failing = record { fault = TooNew; text = invalid_method opcode 1 2 (name_in t.rows row) 0xFF00_0000 }

        x : (content : Content) × (stepped_by (place_of t s) (head_of (gained (r ∷ []) l)) (record { client = living serial d n m; line = gained (r ∷ []) l; acts = [] }) b
            ≡ dispatched (place_of t s) (origin_of c 0xFF00_0000 opcode o q) o q arguments (taken (living serial d n m) (emptied l)) (filled content b))
        x = reads_request (place_of t s) (living serial d n m) l none b large r 0xFF00_0000 opcode q arguments a o lives (ap (λ (i : ℕ). request_in t.rows i opcode) row_here ∙ has)
