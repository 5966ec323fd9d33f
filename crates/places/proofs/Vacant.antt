-- What the search for a new record's place means: the place is vacant or at the length, within the capacity, and the lowest.
use Rattle.std.proofs.Common.{◌≡◌, ℕ, zero, suc, ◌+◌, ◌<◌, ◌≤◌, true, cond, ltb, ◌⊎◌, List, [], ◌∷◌, length, take, is_some, Some, None, Option, sym, refl, ap, ◌∙◌, inl, inr, arith, length-take}
use Rattle.std.proofs.lemmas.List.{get_or-take}
use Rattle.std.proofs.lemmas.Bool.Decides.{nat_tests}
use Rattle.places.specs.Places.{at, lowest, or_else, first_vacant}

none_is_some : {T : Type 0} (x : T) → None ≡ Some x → ⊥
none_is_some x e = let z : ◌≡◌ {A = ℕ} 0 1 = cc in omega arith

-- the place k of a list whose first place has the number n: vacant, within, and the lowest
record First {T : Type 0} (ys : List (Option T)) (n k : ℕ) : Type 0 where
  step : ℕ
  is : k ≡ n + step
  vacant : at ys step ≡ None
  within : step < length ys
  least : (j : ℕ) → j < step → is_some (at ys j) ≡ true

below : {T : Type 0} (x : T) (ys : List (Option T)) (i : ℕ) → ((j : ℕ) → j < i → is_some (at ys j) ≡ true) → (j : ℕ) → j < suc i → is_some (at (Some x ∷ ys) j) ≡ true
below x ys i f zero h = refl
below x ys i f (suc j) h = f j (omega arith)

first : {T : Type 0} (ys : List (Option T)) (n k : ℕ) → lowest n ys ≡ Some k → First ys n k
first [] n k e = absurd (none_is_some k e)
first (None ∷ ys) n k e =
    let s : n ≡ k = cc in
    record { step = 0; is = omega arith; vacant = refl; within = omega arith; least = λ j h. absurd (omega arith) }
first (Some x ∷ ys) n k e =
    let r = first ys (n + 1) k e in
    record { step = suc r.step; is = omega (arith, r.is); vacant = r.vacant; within = omega (arith, r.within); least = below x ys r.step r.least }

nowhere : {T : Type 0} (ys : List (Option T)) (n : ℕ) → lowest n ys ≡ None → (j : ℕ) → j < length ys → is_some (at ys j) ≡ true
nowhere [] n e j h = absurd (omega arith)
nowhere (None ∷ ys) n e j h = absurd (none_is_some n (sym e))
nowhere (Some x ∷ ys) n e zero h = refl
nowhere (Some x ∷ ys) n e (suc j) h = nowhere ys (n + 1) e j (omega arith)

-- where the place of a new record lies
data Where {T : Type 0} (xs : List (Option T)) (len i : ℕ) : Type 0 where
  vacated : i < len → i < length xs → at xs i ≡ None → ((j : ℕ) → j < i → is_some (at xs j) ≡ true) → Where xs len i
  fresh : i ≡ len → len < length xs → ((j : ℕ) → j < len → is_some (at xs j) ≡ true) → Where xs len i

module _ {T : Type 0} (xs : List (Option T)) (len : ℕ) where
  kept : (j : ℕ) → j < len → at (take len xs) j ≡ at xs j
  kept j h = get_or-take len xs j None h

  full : lowest 0 (take len xs) ≡ None → (j : ℕ) → j < len → j < length xs → is_some (at xs j) ≡ true
  full e j h k = ap is_some (sym (kept j h)) ∙ nowhere (take len xs) 0 e j (simp length-take (omega arith))

  in_taken : (i : ℕ) → First (take len xs) 0 i → Where xs len i
  in_taken i f =
      let w : f.step < length (take len xs) = f.within in
      let n = length-take len xs in
      let s : f.step < len = omega (arith, n) in
      let q : i ≡ f.step = omega (arith, f.is) in
      let v : at xs f.step ≡ None = sym (kept f.step s) ∙ f.vacant in
      let l : (j : ℕ) → j < i → is_some (at xs j) ≡ true = λ j h. ap is_some (sym (kept j (omega arith))) ∙ f.least j (omega arith) in
      vacated (omega arith) (omega (arith, n)) (ap (at xs) q ∙ v) l

  at_length : (i : ℕ) → lowest 0 (take len xs) ≡ None → cond (ltb len (length xs)) (Some len) None ≡ Some i → Where xs len i
  at_length i o e =
      let h : len < length xs = grind (arith, nat_tests) in
      let q : i ≡ len = grind (arith, nat_tests) in
      fresh q h (λ j l. full o j l (omega arith))

  where_at : (i : ℕ) (o : Option ℕ) → lowest 0 (take len xs) ≡ o → or_else o (cond (ltb len (length xs)) (Some len) None) ≡ Some i → Where xs len i
  where_at i (Some k) o e = let q : k ≡ i = cc in in_taken i (first (take len xs) 0 i (o ∙ ap Some q))
  where_at i None o e = at_length i o e

  where_is : (i : ℕ) → first_vacant xs len ≡ Some i → Where xs len i
  where_is i e = where_at i _ refl e

  nowhere_at : (o : Option ℕ) → lowest 0 (take len xs) ≡ o → or_else o (cond (ltb len (length xs)) (Some len) None) ≡ None → (length xs ≤ len) × ((j : ℕ) → j < length xs → is_some (at xs j) ≡ true)
  nowhere_at (Some k) o e = absurd (none_is_some k (sym e))
  nowhere_at None o e =
      let h : length xs ≤ len = grind (arith, nat_tests) in
      (h, λ j l. full o j (omega arith) l)

  pub vacant_nowhere : first_vacant xs len ≡ None → (length xs ≤ len) × ((j : ℕ) → j < length xs → is_some (at xs j) ≡ true)
  vacant_nowhere e = nowhere_at _ refl e

module _ {T : Type 0} (xs : List (Option T)) (len i : ℕ) where
  there_at : Where xs len i → ((i < len) × (at xs i ≡ None)) ⊎ (i ≡ len)
  there_at (vacated h w v l) = inl (h, v)
  there_at (fresh q w l) = inr q

  within_at : Where xs len i → i < length xs
  within_at (vacated h w v l) = w
  within_at (fresh q w l) = omega arith

  least_at : (j : ℕ) → j < i → Where xs len i → is_some (at xs j) ≡ true
  least_at j b (vacated h w v l) = l j b
  least_at j b (fresh q w l) = l j (omega arith)

  pub vacant_there : first_vacant xs len ≡ Some i → ((i < len) × (at xs i ≡ None)) ⊎ (i ≡ len)
  vacant_there e = there_at (where_is xs len i e)

  pub vacant_within : first_vacant xs len ≡ Some i → i < length xs
  vacant_within e = within_at (where_is xs len i e)

  pub vacant_least : (j : ℕ) → first_vacant xs len ≡ Some i → j < i → is_some (at xs j) ≡ true
  vacant_least j e h = least_at j h (where_is xs len i e)
