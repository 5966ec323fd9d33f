-- When arguments agree with a signature.
use Rattle.std.proofs.Common.{◌≡◌, suc, Bool, true, false, ◌&&◌, ◌≢◌, List, [], ◌∷◌, length, sym, refl, ap, ◌∙◌, arith}
use Rattle.std.specs.List.{zip}
use Rattle.protocol.specs.declared.argument.ArgumentType.{ArgumentType}
use Rattle.protocol.specs.declared.argument.Argument.{Argument}
use Rattle.protocol.specs.Kinds.{same_type, kind_of, agree}
use Rattle.protocol.specs.Tallies.{all}

and_false : (b : Bool) → (b && false) ≡ false
and_false true = refl
and_false false = refl

-- lists of other lengths do not agree
pub lengths_differ : {Id Bytes : Type 0} (ks : List ArgumentType) (gs : List (Argument Id Bytes)) → length ks ≢ length gs → false ≡ agree ks gs
lengths_differ [] [] h = absurd (h refl)
lengths_differ [] (a ∷ gs) h = refl
lengths_differ (k ∷ ks) [] h = refl
lengths_differ (k ∷ ks) (a ∷ gs) h =
    sym (ap (λ b. same_type (kind_of a) k && b) (sym (lengths_differ ks gs (λ e. h (ap suc e)))) ∙ and_false (same_type (kind_of a) k))

-- lists as long agree where each argument is of its kind
pub agree_zip : {Id Bytes : Type 0} (ks : List ArgumentType) (gs : List (Argument Id Bytes)) → length ks ≡ length gs
    → all (λ p. same_type (kind_of p.1) p.0) (zip ks gs) ≡ agree ks gs
agree_zip [] [] h = refl
agree_zip [] (a ∷ gs) h = absurd (omega arith)
agree_zip (k ∷ ks) [] h = absurd (omega arith)
agree_zip (k ∷ ks) (a ∷ gs) h = ap (λ b. same_type (kind_of a) k && b) (agree_zip ks gs (omega arith))
