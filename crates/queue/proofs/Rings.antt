-- The laws of a ring: its length, the item at an index, one item more at its end, one less at its front.
use Rattle.std.proofs.Common.{◌≡◌, ℕ, zero, suc, ◌+◌, ◌-◌, ◌<◌, ◌≤◌, ltb, List, [], ◌∷◌, ◌++◌, length, get_or, take, drop, set, Some, None, sym, refl, ap, ◌∙◌, arith, length-append, length-drop, length-take}
use Rattle.queue.specs.Ring.{turned, ring, stepped, others}
use Rattle.std.proofs.lemmas.List.{take_more_set, take-append-le, take_more, drop_more, drop_all, take-take, append-nil, append_assoc, set-append_left, set-append_right, take-set-le, drop-set-add, drop-set-lt, get_or_append_left, get_or-append_right, get_or-take, get_or-drop}
use Rattle.std.proofs.lemmas.Option.{slice_get_past, slice_get-get_or, slice_get_within}
use Rattle.std.proofs.lemmas.Bool.{ltb-true, ltb-false, cond_both}
use Rattle.std.specs.List.{slice_get}
use lib.Seq.{take-set-lt}

module _ {A : Type 0} (xs : List A) (h : ℕ) where
  turned_length : length (turned xs h) ≡ length xs
  turned_length = simp (length-append, length-drop, length-take) (omega arith)

  pub ring_length : (n : ℕ) → n ≤ length xs → length (ring xs h n) ≡ n
  unfolding ring
  ring_length n few = simp (length-take, length-append, length-drop) (omega arith)

-- one item more at its end
module _ {A : Type 0} (xs : List A) (h : ℕ) (inside : h ≤ length xs) where
  -- a write in the cells, as it shows in the turned list
  set_straight : (n : ℕ) (x : A) → n < length xs - h → turned (set xs (h + n) x) h ≡ set (turned xs h) n x
  set_straight n x low =
      let front : n < length (drop h xs) = simp length-drop (omega arith) in
      let up : h ≤ h + n = omega arith in
      ap (λ (l : List A). l ++ take h (set xs (h + n) x)) (drop-set-add h xs n x)
      ∙ ap (λ (l : List A). set (drop h xs) n x ++ l) (take-set-le h xs (h + n) x up)
      ∙ sym (set-append_left (drop h xs) (take h xs) n x front)

  set_round : (n : ℕ) (x : A) → length xs - h ≤ n → n < length xs
      → turned (set xs (n - (length xs - h)) x) h ≡ set (turned xs h) n x
  set_round n x high few =
      let low : n - (length xs - h) < h = omega arith in
      let long : length (drop h xs) ≡ length xs - h = length-drop h xs in
      ap (λ (l : List A). l ++ take h (set xs (n - (length xs - h)) x)) (drop-set-lt h xs (n - (length xs - h)) x low)
      ∙ ap (λ (l : List A). drop h xs ++ l) (take-set-lt h xs (n - (length xs - h)) x low)
      ∙ sym (set-append_right (drop h xs) (take h xs) (length xs - h) n x long high)

  ring_push_straight : (n : ℕ) (x : A) → n < length xs - h → ring (set xs (h + n) x) h (n + 1) ≡ ring xs h n ++ x ∷ []
  unfolding ring
  ring_push_straight n x low =
      let few : n < length (turned xs h) = omega (arith, turned_length xs h) in
      ap (take (n + 1)) (set_straight n x low) ∙ take_more_set (turned xs h) n x few

  ring_push_round : (n : ℕ) (x : A) → length xs - h ≤ n → n < length xs
      → ring (set xs (n - (length xs - h)) x) h (n + 1) ≡ ring xs h n ++ x ∷ []
  unfolding ring
  ring_push_round n x high less =
      let few : n < length (turned xs h) = omega (arith, turned_length xs h) in
      ap (take (n + 1)) (set_round n x high less) ∙ take_more_set (turned xs h) n x few

  pub ring_push : (n : ℕ) (x : A) → n < length xs → ring (set xs (stepped (length xs) h n) x) h (n + 1) ≡ ring xs h n ++ x ∷ []
  ring_push n x few =
      cond_both (ltb n (length xs - h)) (h + n) (n - (length xs - h)) (λ (i : ℕ). ring (set xs i x) h (n + 1) ≡ ring xs h n ++ x ∷ [])
      (λ t. ring_push_straight n x (ltb-true n (length xs - h) t))
      (λ t. ring_push_round n x (ltb-false n (length xs - h) t) few)

-- the item at an index
module _ {A : Type 0} (xs : List A) (h : ℕ) (inside : h ≤ length xs) (d : A) where
  turned_at : (i : ℕ) → i < length xs → get_or (turned xs h) i d ≡ get_or xs (stepped (length xs) h i) d
  turned_at i few =
      let long : length (drop h xs) ≡ length xs - h = length-drop h xs in
      let straight : i < length xs - h → get_or (turned xs h) i d ≡ get_or xs (h + i) d =
      λ low. get_or_append_left (drop h xs) (take h xs) d i (omega arith) ∙ get_or-drop h xs i d in
      let round : length xs - h ≤ i → get_or (turned xs h) i d ≡ get_or xs (i - (length xs - h)) d =
      λ high. get_or-append_right (drop h xs) (take h xs) (length xs - h) i d long high ∙ get_or-take h xs (i - (length xs - h)) d (omega arith) in
      cond_both (ltb i (length xs - h)) (h + i) (i - (length xs - h)) (λ (k : ℕ). get_or (turned xs h) i d ≡ get_or xs k d)
      (λ t. straight (ltb-true i (length xs - h) t))
      (λ t. round (ltb-false i (length xs - h) t))

  pub ring_at : (n i : ℕ) → i < n → n ≤ length xs → Some (get_or xs (stepped (length xs) h i) d) ≡ slice_get (ring xs h n) i
  unfolding ring
  ring_at n i low few =
      let known : i < length (take n (turned xs h)) = omega (arith, length-take n (turned xs h), turned_length xs h) in
      sym (slice_get-get_or (take n (turned xs h)) i d known ∙ ap Some (get_or-take n (turned xs h) i d low ∙ turned_at i (omega arith)))

pub ring_past : {A : Type 0} (xs : List A) (h n i : ℕ) → n ≤ length xs → n ≤ i → None ≡ slice_get (ring xs h n) i
ring_past xs h n i few past = sym (slice_get_past (ring xs h n) i (omega (arith, ring_length xs h n few)))

pub ring_some : {A : Type 0} (xs : List A) (h n : ℕ) → n ≤ length xs → (i : ℕ) (x : A) → slice_get (ring xs h n) i ≡ Some x → i < n
ring_some xs h n few i x there = omega (arith, slice_get_within (ring xs h n) i x there, ring_length xs h n few)

pub ring_none : {A : Type 0} (xs : List A) (h : ℕ) → ring xs h 0 ≡ []
unfolding ring
ring_none xs h = refl

take_cons : {A : Type 0} (n : ℕ) (y : A) (ys : List A) → 0 < n → take n (y ∷ ys) ≡ y ∷ take (n - 1) ys
take_cons zero y ys some = absurd (omega arith)
take_cons (suc m) y ys some =
    let less : m ≡ suc m - 1 = omega arith in
    ap (λ (k : ℕ). y ∷ take k ys) less

-- the ring from its first item on
module _ {A : Type 0} (xs : List A) (h : ℕ) (inside : h < length xs) (d : A) where
  turned_front : turned xs h ≡ get_or xs h d ∷ (drop (h + 1) xs ++ take h xs)
  turned_front = ap (λ (l : List A). l ++ take h xs) (drop_more xs h d inside)

  rest_on : (m : ℕ) → m < length xs → h + 1 < length xs → take m (drop (h + 1) xs ++ take h xs) ≡ ring xs (h + 1) m
  unfolding ring
  rest_on m few more =
      let long : m ≤ length (drop (h + 1) xs ++ take h xs) = simp (length-append, length-drop, length-take) (omega arith) in
      sym (take-append-le m (drop (h + 1) xs ++ take h xs) (get_or xs h d ∷ []) long)
      ∙ ap (take m) (append_assoc (drop (h + 1) xs) (take h xs) (get_or xs h d ∷ []))
      ∙ ap (λ (l : List A). take m (drop (h + 1) xs ++ l)) (sym (take_more xs h d inside))

  rest_round : (m : ℕ) → m < length xs → length xs ≤ h + 1 → take m (drop (h + 1) xs ++ take h xs) ≡ ring xs 0 m
  unfolding ring
  rest_round m few last =
      let low : m ≤ h = omega arith in
      ap (λ (l : List A). take m (l ++ take h xs)) (drop_all (h + 1) xs last)
      ∙ take-take m h xs low
      ∙ ap (take m) (sym (append-nil xs))

  first_take : (n : ℕ) → 0 < n → ring xs h n ≡ get_or xs h d ∷ take (n - 1) (drop (h + 1) xs ++ take h xs)
  unfolding ring
  first_take n some = ap (take n) turned_front ∙ take_cons n (get_or xs h d) (drop (h + 1) xs ++ take h xs) some

  pub ring_others_on : (n : ℕ) → 0 < n → n ≤ length xs → h + 1 < length xs → ring xs (h + 1) (n - 1) ≡ others (ring xs h n)
  ring_others_on n some few more =
      let less : n - 1 < length xs = omega arith in
      sym (ap others (first_take n some) ∙ rest_on (n - 1) less more)

  pub ring_others_round : (n : ℕ) → 0 < n → n ≤ length xs → length xs ≤ h + 1 → ring xs 0 (n - 1) ≡ others (ring xs h n)
  ring_others_round n some few last =
      let less : n - 1 < length xs = omega arith in
      sym (ap others (first_take n some) ∙ rest_round (n - 1) less last)
