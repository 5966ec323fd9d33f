-- The two searches of a table, beside the library's search for the first item that passes a test.
use Rattle.std.proofs.Common.{◌≡◌, ℕ, ◌+◌, not, List, [], ◌∷◌, is_some, Some, None, Option, refl, ap, ◌∙◌, sym, arith}
use Rattle.std.specs.Option.{option_map}
use Rattle.std.specs.List.{position, position_from}
use Rattle.std.proofs.lemmas.Iterator.Adapters.{position_from-zero}
use Rattle.places.specs.Places.{lowest, occupied}

from_lowest : {T : Type 0} (n : ℕ) (xs : List (Option T)) → position_from (λ o. not (is_some o)) n xs ≡ lowest n xs
from_lowest n [] = refl
from_lowest n (None ∷ xs) = refl
from_lowest n (Some x ∷ xs) = from_lowest (n + 1) xs

from_occupied : {T : Type 0} (n : ℕ) (xs : List (Option T)) → position_from is_some n xs ≡ occupied n xs
from_occupied n [] = refl
from_occupied n (None ∷ xs) = from_occupied (n + 1) xs
from_occupied n (Some x ∷ xs) = refl

-- a search that counts from n finds the place n further on
further : {T : Type 0} (n m k : ℕ) (xs : List (Option T)) → k ≡ n + m → occupied k xs ≡ option_map (λ i. n + i) (occupied m xs)
further n m k [] e = refl
further n m k (None ∷ xs) e = further n (m + 1) (k + 1) xs (omega (arith, e))
further n m k (Some x ∷ xs) e = ap Some e

-- the first vacant place
pub is_lowest : {T : Type 0} (xs : List (Option T)) → position (λ o. not (is_some o)) xs ≡ lowest 0 xs
is_lowest xs = position_from-zero (λ o. not (is_some o)) xs ∙ from_lowest 0 xs

-- the first occupied place, in a list whose first place has the number n
pub is_occupied : {T : Type 0} (n : ℕ) (xs : List (Option T)) → option_map (λ i. n + i) (position is_some xs) ≡ occupied n xs
is_occupied n xs =
    ap (option_map (λ i. n + i)) (position_from-zero is_some xs ∙ from_occupied 0 xs) ∙ sym (further n 0 n xs (omega arith))
