-- What the search for an occupied place means: the place is at or above the start, occupied, and the lowest such.
use Rattle.std.proofs.Common.{◌≡◌, ℕ, zero, suc, ◌+◌, ◌-◌, ◌<◌, ◌≤◌, true, List, [], ◌∷◌, length, get_or, drop, is_some, Some, None, Option, sym, refl, ap, ◌∙◌, ⊎_elim, arith}
use Rattle.std.proofs.lemmas.List.{get_or-drop, get_or_past}
use Rattle.std.proofs.lemmas.Bool.{false≢true, cases_lt}
use Rattle.places.specs.Places.{at, occupied, occupied_from}

none_is_some : {T : Type 0} (x : T) → None ≡ Some x → ⊥
none_is_some x e = let z : ◌≡◌ {A = ℕ} 0 1 = cc in omega arith

below : {T : Type 0} (ys : List (Option T)) (i : ℕ) → ((j : ℕ) → j < i → at ys j ≡ None) → (j : ℕ) → j < suc i → at (None ∷ ys) j ≡ None
below ys i f zero h = refl
below ys i f (suc j) h = f j (omega arith)

first : {T : Type 0} (ys : List (Option T)) (n k : ℕ) → occupied n ys ≡ Some k → (i : ℕ) × (k ≡ n + i) × (is_some (at ys i) ≡ true) × ((j : ℕ) → j < i → at ys j ≡ None)
first [] n k e = absurd (none_is_some k e)
first (None ∷ ys) n k e =
    let r = first ys (n + 1) k e in
    (suc r.0, omega (arith, r.1), r.2, below ys r.0 r.3)
first (Some x ∷ ys) n k e =
    let s : n ≡ k = cc in
    (0, omega arith, refl, λ j h. absurd (omega arith))

nowhere : {T : Type 0} (ys : List (Option T)) (n : ℕ) → occupied n ys ≡ None → (j : ℕ) → at ys j ≡ None
nowhere [] n e j = refl
nowhere (None ∷ ys) n e zero = refl
nowhere (None ∷ ys) n e (suc j) = nowhere ys (n + 1) e j
nowhere (Some x ∷ ys) n e j = absurd (none_is_some n (sym e))

shift : {T : Type 0} (xs : List (Option T)) (n i k : ℕ) → k ≡ n + i → at (drop n xs) i ≡ at xs k
shift xs n i k e = get_or-drop n xs i None ∙ ap (λ (v : ℕ). get_or xs v None) (sym e)

module _ {T : Type 0} (xs : List (Option T)) (n k : ℕ) (e : occupied_from xs n ≡ Some k) where
  pub from_above : n ≤ k
  from_above = let r = first (drop n xs) n k e in omega (arith, r.1)

  pub from_occupied : is_some (at xs k) ≡ true
  from_occupied = let r = first (drop n xs) n k e in ap is_some (sym (shift xs n r.0 k r.1)) ∙ r.2

  pub from_least : (j : ℕ) → n ≤ j → j < k → at xs j ≡ None
  from_least j h l =
      let r = first (drop n xs) n k e in
      let q : j - n < r.0 = omega (arith, r.1) in
      sym (shift xs n (j - n) j (omega arith)) ∙ r.3 (j - n) q

pub from_nowhere : {T : Type 0} (xs : List (Option T)) (n : ℕ) → occupied_from xs n ≡ None → (j : ℕ) → n ≤ j → at xs j ≡ None
from_nowhere xs n e j h = sym (shift xs n (j - n) j (omega arith)) ∙ nowhere (drop n xs) n e (j - n)

-- an occupied place is within the capacity
pub occupied_within : {T : Type 0} (xs : List (Option T)) (i : ℕ) → is_some (at xs i) ≡ true → i < length xs
occupied_within xs i e = ⊎_elim (λ h. h) (λ h. absurd (false≢true (sym (ap is_some (get_or_past xs i None h)) ∙ e))) (cases_lt i (length xs))
