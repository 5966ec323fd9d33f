-- The walk over a request's arguments: at most one object is entered, and it waits for its data.
use Rattle.std.proofs.Common.{◌≡◌, ℕ, suc, ◌+◌, ◌<◌, ◌≤◌, Bool, true, false, cond, eqb, List, [], ◌∷◌, Some, None, Ok, Err, Option, Result, sym, refl, ◌∙◌, subst, arith}
use Rattle.std.proofs.lemmas.Bool.{cond_both, false≢true}
use Rattle.map.specs.declared.DataMark.TheVariants.{Awaited}
use Rattle.map.specs.declared.fault.MapFault.{MapFault}
use Rattle.map.specs.declared.Object.{Object}
use Rattle.map.specs.declared.ObjectData.{ObjectData}
use Rattle.map.specs.Map.{find_in, insert_answer}
use Rattle.protocol.specs.declared.argument.AllowNull.{AllowNull}
use Rattle.protocol.specs.declared.argument.Argument.{Argument}
use Rattle.protocol.specs.declared.argument.ArgumentType.{ArgumentType}
use Rattle.protocol.specs.declared.argument.ArgumentType.TheVariants as kind
use Rattle.protocol.specs.Kinds.{is_new_id}
use Rattle.protocol.specs.Meaning.{admits_in}
use Rattle.protocol.specs.Tallies.{count}
use Rattle.message.specs.declared.part.Part.{Part}
use Rattle.backend.specs.declared.ids.ClientId.{ClientId}
use Rattle.backend.specs.declared.ids.ObjectId.{ObjectId}
use Rattle.backend.specs.World.{Terms, is_live}
use Rattle.backend.specs.Reading.{as_text, as_object, as_new_id}
use Rattle.backend.specs.Acts.{Act, Seat, enter, draw, fresh}
use Rattle.backend.specs.Arguments.{
  Asked,
  Failing,
  Checked,
  forbids_null,
  is_null_text,
  text_argument,
  next_row,
  live_argument,
  object_argument,
  child_row,
  entering,
  new_id_argument,
  argument,
  Walked,
  continued,
  walk,
}
use Rattle.accounts.proofs.Seats.{Good, later_good, draw_good, enter_good}

-- an argument that enters nothing leaves the seat and the child
abbrev Still : Seat → Option ObjectId → Checked → Type 0
Still s child c = (c.seat ≡ s) × (c.child ≡ child)

text_still : (i : ℕ) (n : AllowNull) (x : Option (Option Part)) (child : Option ObjectId) (wanted : List ℕ) (s : Seat) → Still s child (text_argument i n x child wanted s)
text_still i n x child wanted s =
    cond_both (is_null_text x) _ _ (Still s child) (λ _. cond_both (forbids_null n) _ _ (Still s child) (λ _. (refl, refl)) (λ _. (refl, refl))) (λ _. (refl, refl))

live_still : (t : Terms) (q : Asked) (i id : ℕ) (o : Option (Object ObjectData)) (child : Option ObjectId) (wanted : List ℕ) (s : Seat) → Still s child (live_argument t q i id o child wanted s)
live_still t q i id None child wanted s = (refl, refl)
live_still t q i id (Some o) child wanted s = cond_both (admits_in t.rows (next_row wanted) o.row) _ _ (Still s child) (λ _. (refl, refl)) (λ _. (refl, refl))

object_still : (t : Terms) (q : Asked) (i : ℕ) (n : AllowNull) (x : Option ℕ) (child : Option ObjectId) (wanted : List ℕ) (s : Seat) → Still s child (object_argument t q i n x child wanted s)
object_still t q i n None child wanted s = (refl, refl)
object_still t q i n (Some id) child wanted s =
    cond_both (eqb id 0) _ _ (Still s child) (λ _. cond_both (forbids_null n) _ _ (Still s child) (λ _. (refl, refl)) (λ _. (refl, refl)))
    (λ _. live_still t q i id (find_in s.client.map id) child wanted s)

argument_still : (t : Terms) (q : Asked) (i : ℕ) (k : ArgumentType) (a : Argument ℕ Part) (child : Option ObjectId) (wanted : List ℕ) (s : Seat) → is_new_id k ≡ false
    → Still s child (argument t q i k a child wanted s)
argument_still t q i kind.Int a child wanted s e = (refl, refl)
argument_still t q i kind.Uint a child wanted s e = (refl, refl)
argument_still t q i kind.Fixed a child wanted s e = (refl, refl)
argument_still t q i (kind.Str n) a child wanted s e = text_still i n (as_text a) child wanted s
argument_still t q i (kind.Object n) a child wanted s e = object_still t q i n (as_object a) child wanted s
argument_still t q i kind.NewId a child wanted s e = absurd (false≢true (sym e))
argument_still t q i kind.Array a child wanted s e = (refl, refl)
argument_still t q i kind.Fd a child wanted s e = (refl, refl)

-- the first fault ends the walk, and else the rest is what counts
continued_so : (P : Seat → Option ObjectId → Type 0) (f : Option Failing) (c : Checked) (rest : Walked) → P c.seat c.child → P rest.seat rest.child
    → P (continued f c rest).seat (continued f c rest).child
continued_so P (Some f) c rest here there = here
continued_so P None c rest here there = there

module _ (t : Terms) (q : Asked) where
  abbrev whose : ClientId
  whose = q.sender.client

  -- with no new id left, nothing is entered
  walk_still : (ks : List ArgumentType) (as' : List (Argument ℕ Part)) (i : ℕ) (child : Option ObjectId) (wanted : List ℕ) (s : Seat) → count is_new_id ks ≡ 0
      → ((walk t q i ks as' child wanted s).seat ≡ s) × ((walk t q i ks as' child wanted s).child ≡ child)
  walk_still [] as' i child wanted s e = (refl, refl)
  walk_still (k ∷ ks) [] i child wanted s e = (refl, refl)
  walk_still (k ∷ ks) (a ∷ as') i child wanted s e = go (λ c z. walk_still ks as' (i + 1) c.child c.wanted c.seat z)
    where
      c : Checked
      c = argument t q i k a child wanted s

      fewer : (b : Bool) → cond b 1 0 + count is_new_id ks ≡ 0 → (b ≡ false) × (count is_new_id ks ≡ 0)
      fewer true z = absurd (omega (arith, z))
      fewer false z = (refl, omega (arith, z))

      go : ((d : Checked) → count is_new_id ks ≡ 0 → ((walk t q (i + 1) ks as' d.child d.wanted d.seat).seat ≡ d.seat) × ((walk t q (i + 1) ks as' d.child d.wanted d.seat).child ≡ d.child))
          → ((continued c.fault c (walk t q (i + 1) ks as' c.child c.wanted c.seat)).seat ≡ s)
          × ((continued c.fault c (walk t q (i + 1) ks as' c.child c.wanted c.seat)).child ≡ child)
      go again =
          let f = fewer (is_new_id k) e in
          let still = argument_still t q i k a child wanted s f.0 in
          let rest = again c f.1 in
          continued_so (λ (x : Seat) (y : Option ObjectId). (x ≡ s) × (y ≡ child)) c.fault c (walk t q (i + 1) ks as' c.child c.wanted c.seat) still (rest.0 ∙ still.0, rest.1 ∙ still.1)

  -- What holds of a seat before anything is entered, and what holds after: with at most one new id, at most one object is entered.
  module _ (Free : Seat → Type 0) (Done : Option ObjectId → Seat → Type 0) (rests : (s : Seat) → Free s → Done None s) (draws : (s : Seat) → Free s → Done None (draw s))
      (enters : (s : Seat) → Free s → (id : ℕ) → insert_answer s.client.map id ≡ Ok tt
      → Done (Some (fresh whose id (child_row q.message.child) s.client)) (enter whose id (child_row q.message.child) q.version Awaited s)) where
    pub walk_any : (ks : List ArgumentType) (as' : List (Argument ℕ Part)) (i : ℕ) (child : Option ObjectId) (wanted : List ℕ) (s : Seat) → count is_new_id ks ≤ 1 → child ≡ None → Free s
        → Done (walk t q i ks as' child wanted s).child (walk t q i ks as' child wanted s).seat
    walk_any [] as' i child wanted s le none g = subst (λ (v : Option ObjectId). Done v s) (sym none) (rests s g)
    walk_any (k ∷ ks) [] i child wanted s le none g = subst (λ (v : Option ObjectId). Done v s) (sym none) (rests s g)
    walk_any (k ∷ ks) (a ∷ as') i child wanted s le none g = by_kind (λ c few z gc. walk_any ks as' (i + 1) c.child c.wanted c.seat few z gc) (is_new_id k) refl
      where
        rest_of : Checked → Walked
        rest_of c = walk t q (i + 1) ks as' c.child c.wanted c.seat

        Goes : Checked → Type 0
        Goes c = Done (continued c.fault c (rest_of c)).child (continued c.fault c (rest_of c)).seat

        Again : Type 0
        Again = (c : Checked) → count is_new_id ks ≤ 1 → c.child ≡ None → Free c.seat → Done (rest_of c).child (rest_of c).seat

        -- an argument that entered nothing
        passed : Again → (c : Checked) → Still s child c → count is_new_id ks ≤ 1 → Goes c
        passed again c still few =
            let here : Free c.seat = subst Free (sym still.0) g in
            continued_so (λ (x : Seat) (v : Option ObjectId). Done v x) c.fault c (rest_of c)
            (subst (λ (v : Option ObjectId). Done v c.seat) (sym (still.1 ∙ none)) (rests c.seat here))
            (again c few (still.1 ∙ none) here)

        -- a new id
        made : (id : ℕ) (r : Result (Unit {0}) MapFault) → insert_answer s.client.map id ≡ r → count is_new_id ks ≡ 0 → Goes (entering q i id r child wanted s)
        made id (Err f) e zero = subst (λ (v : Option ObjectId). Done v (draw s)) (sym none) (draws s g)
        made id (Ok u) e zero =
            let x = fresh whose id (child_row q.message.child) s.client in
            let s1 = enter whose id (child_row q.message.child) q.version Awaited s in
            let rest = walk_still ks as' (i + 1) (Some x) wanted s1 zero in
            subst (λ (v : Option ObjectId). Done v (walk t q (i + 1) ks as' (Some x) wanted s1).seat) (sym rest.1) (subst (λ (y : Seat). Done (Some x) y) (sym rest.0) (enters s g id e))

        by_new_id : Again → (x : Option ℕ) → count is_new_id ks ≡ 0 → Goes (new_id_argument q i x child wanted s)
        by_new_id again None zero = passed again (new_id_argument q i None child wanted s) (refl, refl) (omega (arith, zero))
        by_new_id again (Some id) zero = made id (insert_answer s.client.map id) refl zero

        fewer : (b : Bool) → cond b 1 0 + count is_new_id ks ≤ 1 → b ≡ true → count is_new_id ks ≡ 0
        fewer true z p = omega (arith, z)
        fewer false z p = absurd (false≢true p)

        some : (b : Bool) → cond b 1 0 + count is_new_id ks ≤ 1 → count is_new_id ks ≤ 1
        some true z = omega (arith, z)
        some false z = omega (arith, z)

        at_kind : Again → (j : ArgumentType) → is_new_id j ≡ true → count is_new_id ks ≡ 0 → Goes (argument t q i j a child wanted s)
        at_kind again kind.Int p zero = absurd (false≢true p)
        at_kind again kind.Uint p zero = absurd (false≢true p)
        at_kind again kind.Fixed p zero = absurd (false≢true p)
        at_kind again (kind.Str m) p zero = absurd (false≢true p)
        at_kind again (kind.Object m) p zero = absurd (false≢true p)
        at_kind again kind.NewId p zero = by_new_id again (as_new_id a) zero
        at_kind again kind.Array p zero = absurd (false≢true p)
        at_kind again kind.Fd p zero = absurd (false≢true p)

        by_kind : Again → (b : Bool) → is_new_id k ≡ b → Goes (argument t q i k a child wanted s)
        by_kind again true p = at_kind again k p (fewer (is_new_id k) le p)
        by_kind again false p = passed again (argument t q i k a child wanted s) (argument_still t q i k a child wanted s p) (some (is_new_id k) le)

  -- the books are kept, and what was entered waits for its data
  pub walk_good : {n : ℕ} {before : List Act} → n < 4294967295 → (ks : List ArgumentType) (as' : List (Argument ℕ Part)) (wanted : List ℕ) (s : Seat) → count is_new_id ks ≤ 1
      → Good None whose n before s → is_live s.client.state ≡ true
      → Good (walk t q 0 ks as' None wanted s).child whose (suc n) before (walk t q 0 ks as' None wanted s).seat
  walk_good {n} {before} h ks as' wanted s le g l =
      walk_any (λ x. Good None whose n before x × (is_live x.client.state ≡ true)) (λ v x. Good v whose (suc n) before x) (λ x f. later_good x f.0) (λ x f. draw_good h x f.0)
      (λ x f id e. enter_good h x f.0 f.1 id (child_row q.message.child) q.version Awaited e (Some (fresh whose id (child_row q.message.child) x.client))
      (λ y p. let z : ◌≡◌ {A = ℕ} 0 1 = cc in absurd (omega arith)) (λ p. refl))
      ks as' 0 None wanted s le refl (g, l)
