-- A list that follows another.
use Rattle.std.specs.Prelude.{◌≡◌, ℕ, zero, suc, ◌+◌, ◌<◌, List, [], ◌∷◌, ◌++◌, length, Some, ◌≢◌, slice_set, refl}
use Rattle.std.proofs.Common.{ap, arith}
use Rattle.std.specs.List.{slice_get}

pub nth_front : {X : Type 0} (xs ys : List X) (i : ℕ) → i < length xs → slice_get (xs ++ ys) i ≡ slice_get xs i
nth_front [] ys i h = absurd (omega arith)
nth_front (x ∷ xs) ys zero h = refl
nth_front (x ∷ xs) ys (suc i) h = nth_front xs ys i (omega arith)

pub nth_back : {X : Type 0} (xs ys : List X) (i k : ℕ) → i ≡ length xs + k → slice_get (xs ++ ys) i ≡ slice_get ys k
nth_back [] ys i k h = ap (slice_get ys) (let e : i ≡ k = omega arith in e)
nth_back (x ∷ xs) ys zero k h = absurd (omega arith)
nth_back (x ∷ xs) ys (suc i) k h = nth_back xs ys i k (omega arith)

pub set_back : {X : Type 0} (xs ys : List X) (i k : ℕ) (y : X) → i ≡ length xs + k → slice_set (xs ++ ys) i y ≡ xs ++ slice_set ys k y
set_back [] ys i k y h = ap (λ n. slice_set ys n y) (let e : i ≡ k = omega arith in e)
set_back (x ∷ xs) ys zero k y h = absurd (omega arith)
set_back (x ∷ xs) ys (suc i) k y h = ap (λ l. x ∷ l) (set_back xs ys i k y (omega arith))

-- what stands at an index, after one item is replaced
pub nth_set_same : {X : Type 0} (xs : List X) (i : ℕ) (y : X) → i < length xs → slice_get (slice_set xs i y) i ≡ Some y
nth_set_same [] i y h = absurd (omega arith)
nth_set_same (x ∷ xs) zero y h = refl
nth_set_same (x ∷ xs) (suc i) y h = nth_set_same xs i y (omega arith)

pub nth_set_other : {X : Type 0} (xs : List X) (i j : ℕ) (y : X) → (j ≢ i) → slice_get (slice_set xs i y) j ≡ slice_get xs j
nth_set_other [] i j y h = refl
nth_set_other (x ∷ xs) zero zero y h = absurd (h refl)
nth_set_other (x ∷ xs) zero (suc j) y h = refl
nth_set_other (x ∷ xs) (suc i) zero y h = refl
nth_set_other (x ∷ xs) (suc i) (suc j) y h = nth_set_other xs i j y (λ e. h (ap suc e))
