use Rattle.std.proofs.Common.{rules, ltb}
use Rattle.std.proofs.lemmas.Iterator.Search.{all_from_yields_List}
use Rattle.std.proofs.lemmas.Iterator.{YieldsList-from_slice}
use Rattle.message.proofs.event.is_clean.Goals as goal

pub returns-in-Str-Some : goal.returns-in-Str-Some
returns-in-Str-Some c =
    let e = all_from_yields_List (λ b. ltb 0 b) _ _ _ c.all.ensures.ran (YieldsList-from_slice c.bytes_of.result.now cc) (λ x b q k. search rules) in
    search rules
