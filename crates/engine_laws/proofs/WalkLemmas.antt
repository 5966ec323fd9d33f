-- The walk over a request's arguments enters an object exactly where one of them is a new id.
use Rattle.std.proofs.Common.{◌≡◌, ℕ, ◌+◌, Bool, true, false, cond, eqb, List, [], ◌∷◌, is_some, Some, None, Ok, Err, Option, Result, sym, refl, ap, ◌∙◌, subst, arith}
use Rattle.std.proofs.lemmas.Bool.{cond_both, false≢true, and_parts}
use Rattle.map.specs.declared.fault.MapFault.{MapFault}
use Rattle.map.specs.declared.Object.{Object}
use Rattle.map.specs.declared.ObjectData.{ObjectData}
use Rattle.map.specs.Map.{find_in, insert_answer}
use Rattle.protocol.specs.declared.argument.AllowNull.{AllowNull}
use Rattle.protocol.specs.declared.argument.Argument.{Argument}
use Rattle.protocol.specs.declared.argument.Argument.TheVariants.{Int, Uint, Fixed, Str, Object as Obj, NewId, Array, Fd}
use Rattle.protocol.specs.declared.argument.ArgumentType.{ArgumentType}
use Rattle.protocol.specs.declared.argument.ArgumentType.TheVariants as kind
use Rattle.protocol.specs.Kinds.{is_new_id, same_type, kind_of, agree}
use Rattle.protocol.specs.Meaning.{admits_in}
use Rattle.protocol.specs.Tallies.{count}
use Rattle.message.specs.declared.part.Part.{Part}
use Rattle.backend.specs.declared.ids.ObjectId.{ObjectId}
use Rattle.backend.specs.World.{Terms}
use Rattle.backend.specs.Reading.{as_text, as_object, as_new_id}
use Rattle.backend.specs.Acts.{Seat}
use Rattle.backend.specs.Arguments.{Asked, Failing, Checked, forbids_null, is_null_text, text_argument, next_row, live_argument, object_argument, entering, new_id_argument, argument, Walked, continued, walk}

-- the first fault ends the walk, and else the rest is what counts
either : (P : Option ObjectId → Type 0) (f : Option Failing) (c : Checked) (rest : Walked) → P c.child → P rest.child → P (continued f c rest).child
either P (Some f) c rest here there = here
either P None c rest here there = there

module _ (t : Terms) (q : Asked) where
  abbrev Leaves : Option ObjectId → Checked → Type 0
  Leaves child c = c.child ≡ child

  text_leaves : (i : ℕ) (n : AllowNull) (x : Option (Option Part)) (child : Option ObjectId) (wanted : List ℕ) (s : Seat) → Leaves child (text_argument i n x child wanted s)
  text_leaves i n x child wanted s =
      cond_both (is_null_text x) _ _ (Leaves child) (λ _. cond_both (forbids_null n) _ _ (Leaves child) (λ _. refl) (λ _. refl)) (λ _. refl)

  live_leaves : (i id : ℕ) (o : Option (Object ObjectData)) (child : Option ObjectId) (wanted : List ℕ) (s : Seat) → Leaves child (live_argument t q i id o child wanted s)
  live_leaves i id None child wanted s = refl
  live_leaves i id (Some o) child wanted s = cond_both (admits_in t.rows (next_row wanted) o.row) _ _ (Leaves child) (λ _. refl) (λ _. refl)

  object_leaves : (i : ℕ) (n : AllowNull) (x : Option ℕ) (child : Option ObjectId) (wanted : List ℕ) (s : Seat) → Leaves child (object_argument t q i n x child wanted s)
  object_leaves i n None child wanted s = refl
  object_leaves i n (Some id) child wanted s =
      cond_both (eqb id 0) _ _ (Leaves child) (λ _. cond_both (forbids_null n) _ _ (Leaves child) (λ _. refl) (λ _. refl))
      (λ _. live_leaves i id (find_in s.client.map id) child wanted s)

  -- an argument that is no new id enters nothing
  argument_leaves : (i : ℕ) (k : ArgumentType) (a : Argument ℕ Part) (child : Option ObjectId) (wanted : List ℕ) (s : Seat) → is_new_id k ≡ false → Leaves child (argument t q i k a child wanted s)
  argument_leaves i kind.Int a child wanted s e = refl
  argument_leaves i kind.Uint a child wanted s e = refl
  argument_leaves i kind.Fixed a child wanted s e = refl
  argument_leaves i (kind.Str n) a child wanted s e = text_leaves i n (as_text a) child wanted s
  argument_leaves i (kind.Object n) a child wanted s e = object_leaves i n (as_object a) child wanted s
  argument_leaves i kind.NewId a child wanted s e = absurd (false≢true (sym e))
  argument_leaves i kind.Array a child wanted s e = refl
  argument_leaves i kind.Fd a child wanted s e = refl

  -- what was entered stays so
  abbrev There : Option ObjectId → Type 0
  There v = is_some v ≡ true

  entering_keeps : (i id : ℕ) (r : Result (Unit {0}) MapFault) (child : Option ObjectId) (wanted : List ℕ) (s : Seat) → There child → There (entering q i id r child wanted s).child
  entering_keeps i id (Ok u) child wanted s h = refl
  entering_keeps i id (Err f) child wanted s h = h

  new_id_keeps : (i : ℕ) (x : Option ℕ) (child : Option ObjectId) (wanted : List ℕ) (s : Seat) → There child → There (new_id_argument q i x child wanted s).child
  new_id_keeps i None child wanted s h = h
  new_id_keeps i (Some id) child wanted s h = entering_keeps i id (insert_answer s.client.map id) child wanted s h

  argument_keeps : (i : ℕ) (k : ArgumentType) (a : Argument ℕ Part) (child : Option ObjectId) (wanted : List ℕ) (s : Seat) → There child → There (argument t q i k a child wanted s).child
  argument_keeps i kind.Int a child wanted s h = h
  argument_keeps i kind.Uint a child wanted s h = h
  argument_keeps i kind.Fixed a child wanted s h = h
  argument_keeps i (kind.Str n) a child wanted s h = subst There (sym (text_leaves i n (as_text a) child wanted s)) h
  argument_keeps i (kind.Object n) a child wanted s h = subst There (sym (object_leaves i n (as_object a) child wanted s)) h
  argument_keeps i kind.NewId a child wanted s h = new_id_keeps i (as_new_id a) child wanted s h
  argument_keeps i kind.Array a child wanted s h = h
  argument_keeps i kind.Fd a child wanted s h = h

  walk_keeps : (ks : List ArgumentType) (as' : List (Argument ℕ Part)) (i : ℕ) (child : Option ObjectId) (wanted : List ℕ) (s : Seat) → There child → There (walk t q i ks as' child wanted s).child
  walk_keeps [] as' i child wanted s h = h
  walk_keeps (k ∷ ks) [] i child wanted s h = h
  walk_keeps (k ∷ ks) (a ∷ as') i child wanted s h =
      let c = argument t q i k a child wanted s in
      let here = argument_keeps i k a child wanted s h in
      either There c.fault c (walk t q (i + 1) ks as' c.child c.wanted c.seat) here (walk_keeps ks as' (i + 1) c.child c.wanted c.seat here)

  none_left : (b : Bool) (n : ℕ) → cond b 1 0 + n ≡ 0 → (b ≡ false) × (n ≡ 0)
  none_left true n z = absurd (omega (arith, z))
  none_left false n z = (refl, omega (arith, z))

  -- with no new id nothing is entered
  pub walk_enters_none : (ks : List ArgumentType) (as' : List (Argument ℕ Part)) (i : ℕ) (child : Option ObjectId) (wanted : List ℕ) (s : Seat) → count is_new_id ks ≡ 0 → (walk t q i ks as' child wanted s).child ≡ child
  walk_enters_none [] as' i child wanted s z = refl
  walk_enters_none (k ∷ ks) [] i child wanted s z = refl
  walk_enters_none (k ∷ ks) (a ∷ as') i child wanted s z =
      let n = none_left (is_new_id k) (count is_new_id ks) z in
      let c = argument t q i k a child wanted s in
      let here = argument_leaves i k a child wanted s n.0 in
      either (λ (v : Option ObjectId). v ≡ child) c.fault c (walk t q (i + 1) ks as' c.child c.wanted c.seat) here
      (walk_enters_none ks as' (i + 1) c.child c.wanted c.seat n.1 ∙ here)

  -- a new id that has no fault is entered
  entering_enters : (i id : ℕ) (r : Result (Unit {0}) MapFault) (child : Option ObjectId) (wanted : List ℕ) (s : Seat) → (entering q i id r child wanted s).fault ≡ None → There (entering q i id r child wanted s).child
  entering_enters i id (Ok u) child wanted s e = refl
  entering_enters i id (Err f) child wanted s e = let z : ◌≡◌ {A = ℕ} 0 1 = cc in absurd (omega arith)

  new_id_enters : (i : ℕ) (a : Argument ℕ Part) (child : Option ObjectId) (wanted : List ℕ) (s : Seat) → same_type (kind_of a) kind.NewId ≡ true
      → (argument t q i kind.NewId a child wanted s).fault ≡ None → There (argument t q i kind.NewId a child wanted s).child
  new_id_enters i (Int x) child wanted s k e = absurd (false≢true k)
  new_id_enters i (Uint x) child wanted s k e = absurd (false≢true k)
  new_id_enters i (Fixed x) child wanted s k e = absurd (false≢true k)
  new_id_enters i (Str x) child wanted s k e = absurd (false≢true k)
  new_id_enters i (Obj x) child wanted s k e = absurd (false≢true k)
  new_id_enters i (NewId id) child wanted s k e = entering_enters i id (insert_answer s.client.map id) child wanted s e
  new_id_enters i (Array x) child wanted s k e = absurd (false≢true k)
  new_id_enters i (Fd x) child wanted s k e = absurd (false≢true k)

  agreeing_enters : (i : ℕ) (k : ArgumentType) (a : Argument ℕ Part) (child : Option ObjectId) (wanted : List ℕ) (s : Seat) → is_new_id k ≡ true → same_type (kind_of a) k ≡ true
      → (argument t q i k a child wanted s).fault ≡ None → There (argument t q i k a child wanted s).child
  agreeing_enters i kind.Int a child wanted s n k e = absurd (false≢true n)
  agreeing_enters i kind.Uint a child wanted s n k e = absurd (false≢true n)
  agreeing_enters i kind.Fixed a child wanted s n k e = absurd (false≢true n)
  agreeing_enters i (kind.Str m) a child wanted s n k e = absurd (false≢true n)
  agreeing_enters i (kind.Object m) a child wanted s n k e = absurd (false≢true n)
  agreeing_enters i kind.NewId a child wanted s n k e = new_id_enters i a child wanted s k e
  agreeing_enters i kind.Array a child wanted s n k e = absurd (false≢true n)
  agreeing_enters i kind.Fd a child wanted s n k e = absurd (false≢true n)

  -- with no fault in the whole, there is none here and none in the rest
  unfaulted : (f : Option Failing) (c : Checked) (rest : Walked) → (continued f c rest).fault ≡ None → (f ≡ None) × (rest.fault ≡ None) × ((continued f c rest).child ≡ rest.child)
  unfaulted (Some f) c rest e = let z : ◌≡◌ {A = ℕ} 0 1 = cc in absurd (omega arith)
  unfaulted None c rest e = (refl, e, refl)

  -- where the arguments agree with the signature, are not at fault, and nothing was entered, there is no new id
  pub walk_made_none : (ks : List ArgumentType) (as' : List (Argument ℕ Part)) (i : ℕ) (child : Option ObjectId) (wanted : List ℕ) (s : Seat) → agree ks as' ≡ true
      → (walk t q i ks as' child wanted s).fault ≡ None → (walk t q i ks as' child wanted s).child ≡ None → count is_new_id ks ≡ 0
  walk_made_none [] as' i child wanted s g e n = refl
  walk_made_none (k ∷ ks) [] i child wanted s g e n = absurd (false≢true g)
  walk_made_none (k ∷ ks) (a ∷ as') i child wanted s g e n =
      let c = argument t q i k a child wanted s in
      let rest = walk t q (i + 1) ks as' c.child c.wanted c.seat in
      let both = and_parts (same_type (kind_of a) k) (agree ks as') g in
      let u = unfaulted c.fault c rest e in
      let none : rest.child ≡ None = sym u.2 ∙ n in
      let fewer = walk_made_none ks as' (i + 1) c.child c.wanted c.seat both.1 u.1 none in
      no_new_id (is_new_id k) (count is_new_id ks) fewer
      (λ new. let kept = walk_keeps ks as' (i + 1) c.child c.wanted c.seat (agreeing_enters i k a child wanted s new both.0 u.0) in false≢true (ap is_some (sym none) ∙ kept))
    where
      no_new_id : (b : Bool) (n : ℕ) → n ≡ 0 → (b ≡ true → ⊥) → cond b 1 0 + n ≡ 0
      no_new_id true n z never = absurd (never refl)
      no_new_id false n z never = omega (arith, z)
