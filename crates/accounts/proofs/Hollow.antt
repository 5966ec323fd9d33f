-- Histories that must not agree do not.
use Rattle.std.proofs.Common.{◌≡◌, ℕ, List, [], ◌∷◌, refl, sym, subst, arith}
use Rattle.accounts.specs.Accounts.{Apart, Side, delete, entry, Alternates, nothing, enters, deleted}
use Rattle.accounts.specs.Told.{Telling}

-- what comes next is told by what came last
abbrev Next : List Side → Side → Type 0
Next [] f = f ≡ entry
Next (entry ∷ s) f = f ≡ delete
Next (delete ∷ s) f = f ≡ entry

next_is : {s : List Side} {f : Side} → Alternates s f → Next s f
next_is nothing = refl
next_is (enters a) = refl
next_is (deleted a) = refl

differ : delete ≡ entry → ⊥
differ e = let z : ◌≡◌ {A = ℕ} 0 1 = cc in omega arith

no_two_deletes : (s : List Side) (f : Side) → Alternates (delete ∷ delete ∷ s) f → ⊥
no_two_deletes s f (deleted a) = differ (next_is a)

no_two_entries : (s : List Side) (f : Side) → Alternates (entry ∷ entry ∷ s) f → ⊥
no_two_entries s f (enters a) = differ (sym (next_is a))

pub telling : Telling
telling = record {
  one_handle_twice = λ t h w c x xs e q a. (subst Apart e a.apart).0 q;
  one_end_twice = λ t h w c x xs e q a. (subst Apart e a.told_once).0 q;
  told_and_looks = λ t h w x q l f. (f.looks_entered x l).1 q;
  looks_unentered = λ t h w x q l f. q (f.looks_entered x l).0;
  deleted_twice = λ t h w c i s below u e a. let n = a.alternate u i below in no_two_deletes s n.0 (subst (λ (z : List Side). Alternates z n.0) e n.1);
  entered_twice = λ t h w c i s below u e a. let n = a.alternate u i below in no_two_entries s n.0 (subst (λ (z : List Side). Alternates z n.0) e n.1);
}
