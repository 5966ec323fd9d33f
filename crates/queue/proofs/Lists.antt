-- The laws of a queue's list of items.
use Rattle.std.proofs.Common.{◌≡◌, ℕ, zero, suc, ◌<◌, List, [], ◌∷◌, ◌++◌, length, Some, sym, refl, arith}
use Rattle.queue.specs.Laws.{popped, QueueLaws}
use Rattle.queue.specs.Ring.{front}
use Rattle.std.specs.List.{slice_get}

pub nth_front : {A : Type 0} (xs : List A) → slice_get xs 0 ≡ front xs
nth_front [] = refl
nth_front (x ∷ xs) = refl

module _ {A : Type 0} where
  popped_front : (i : ℕ) (xs : List A) → front (popped i xs) ≡ slice_get xs i
  popped_front zero xs = sym (nth_front xs)
  popped_front (suc i) [] = popped_front i []
  popped_front (suc i) (x ∷ xs) = popped_front i xs

  nth_last : (xs : List A) (x : A) → slice_get (xs ++ x ∷ []) (length xs) ≡ Some x
  nth_last [] x = refl
  nth_last (y ∷ xs) x = nth_last xs x

  nth_below : (xs : List A) (x : A) (i : ℕ) → i < length xs → slice_get (xs ++ x ∷ []) i ≡ slice_get xs i
  nth_below [] x i low = absurd (omega arith)
  nth_below (y ∷ xs) x zero low = refl
  nth_below (y ∷ xs) x (suc i) low = nth_below xs x i (omega arith)

  pub laws : QueueLaws A
  laws =
      record {
        in_turn = λ room x xs few. grind (arith, popped_front (length xs) (xs ++ x ∷ []), nth_last xs x);
        in_order = popped_front;
        full = λ room x xs most. grind arith;
        kept = λ room x xs i low. grind (arith, nth_below xs x i low);
      }
