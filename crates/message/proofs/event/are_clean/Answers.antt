use Rattle.std.proofs.Common.{rules, sym, ◌∙◌}
use Rattle.std.proofs.lemmas.Iterator.Search.{all_from_yields_List}
use Rattle.std.proofs.lemmas.Iterator.{YieldsList-from_slice}
use Rattle.std.proofs.lemmas.List.Folds.{list_all-map}
use Rattle.message.specs.Events.{clean}
use Rattle.message.specs.Meaning.{meaning}
use Rattle.message.proofs.event.are_clean.Goals as goal

pub returns : goal.returns
returns c =
    let said = meaning c.args.bytes.now in
    all_from_yields_List (λ a. clean (said a)) _ _ _ c.all.ensures.ran (YieldsList-from_slice c.args.arguments.now cc) (λ x b q k. search rules)
    ∙ sym (list_all-map clean said c.args.arguments.now)
