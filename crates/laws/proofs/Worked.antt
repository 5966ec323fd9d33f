-- The worked cases.
use Rattle.std.proofs.Common.{refl, arith}
use Rattle.std.proofs.lemmas.Bool.Decides.{nat_tests}
use Rattle.std.proofs.lemmas.List.{get_or_past}
use Rattle.laws.specs.Cases.{Cases}

pub cases : (D : Type 0) → Cases D
cases D =
    record {
      one_there = λ o. refl;
      zero_refused = λ o. refl;
      two_entered = λ o. refl;
      three_beyond = λ o. refl;
      server_entered = λ o. refl;
      one_taken = λ o. refl;
      last_full = λ m z n. grind (arith, nat_tests, get_or_past);
      past_beyond = λ m z n. grind (arith, nat_tests);
    }
