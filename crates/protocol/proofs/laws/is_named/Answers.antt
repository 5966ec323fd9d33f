use Rattle.std.proofs.Common.{rules, ltb}
use Rattle.std.proofs.lemmas.Iterator.Search.{all_from_yields_List}
use Rattle.std.proofs.lemmas.Iterator.{YieldsList-from_slice}
use Rattle.protocol.proofs.laws.is_named.Goals as goal

pub returns-then-name-le-NAME_BYTES : goal.returns-then-name-le-NAME_BYTES
returns-then-name-le-NAME_BYTES c =
    let e = all_from_yields_List (λ b. ltb 0 b) _ _ _ c.all.ensures.ran (YieldsList-from_slice c.args.name.now cc) (λ x b q k. search rules) in
    search rules
