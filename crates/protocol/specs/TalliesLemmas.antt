-- What a test of every item says.
use Rattle.std.specs.Prelude.{◌≡◌, ℕ, zero, suc, Bool, true, List, [], ◌∷◌, replicate, Some, slice_set, refl}
use Rattle.std.proofs.Common.{ap, ◌∙◌, arith}
use Rattle.std.proofs.lemmas.Bool.{and_parts, and_from}
use Rattle.std.specs.List.{slice_get}
use Rattle.protocol.specs.Tallies.{all}

pub all_set : {X : Type 0} (f : X → Bool) (xs : List X) (i : ℕ) (y : X) → f y ≡ true → all f xs ≡ true → all f (slice_set xs i y) ≡ true
all_set f [] i y h g = refl
all_set f (x ∷ xs) zero y h g = and_from (f y) (all f xs) h (and_parts (f x) (all f xs) g).1
all_set f (x ∷ xs) (suc i) y h g =
    and_from (f x) (all f (slice_set xs i y)) (and_parts (f x) (all f xs) g).0 (all_set f xs i y h (and_parts (f x) (all f xs) g).1)

pub all_replicate : {X : Type 0} (f : X → Bool) (n : ℕ) (x : X) → f x ≡ true → all f (replicate n x) ≡ true
all_replicate f zero x h = refl
all_replicate f (suc n) x h = and_from (f x) (all f (replicate n x)) h (all_replicate f n x h)

-- what passes at every item passes at each, and the other way round
pub all_nth : {X : Type 0} (f : X → Bool) (xs : List X) (i : ℕ) (x : X) → all f xs ≡ true → slice_get xs i ≡ Some x → f x ≡ true
all_nth f [] i x g e = absurd (let z : ◌≡◌ {A = ℕ} 0 1 = cc in omega arith)
all_nth f (y ∷ ys) zero x g e = let s : x ≡ y = cc in ap f s ∙ (and_parts (f y) (all f ys) g).0
all_nth f (y ∷ ys) (suc i) x g e = all_nth f ys i x (and_parts (f y) (all f ys) g).1 e

pub all_from : {X : Type 0} (f : X → Bool) (xs : List X) → ((i : ℕ) (x : X) → slice_get xs i ≡ Some x → f x ≡ true) → all f xs ≡ true
all_from f [] h = refl
all_from f (x ∷ xs) h = and_from (f x) (all f xs) (h zero x refl) (all_from f xs (λ i y e. h (suc i) y e))
