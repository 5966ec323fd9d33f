use Rattle.std.proofs.Common.{rules, sym, ◌∙◌}
use Rattle.std.proofs.lemmas.Iterator.Search.{all_from_yields_List}
use Rattle.std.proofs.lemmas.Iterator.{YieldsList-from_slice}
use Rattle.std.proofs.lemmas.List.Folds.{list_all-map}
use Rattle.protocol.specs.Model.{said_buf}
use Rattle.protocol.specs.RowTests.{makes_named}
use Rattle.protocol.proofs.laws.all_make_named.Goals as goal

pub returns : goal.returns
returns c =
    all_from_yields_List (λ m. makes_named (said_buf m)) _ _ _ c.all.ensures.ran (YieldsList-from_slice c.args.messages.now cc) (λ x b q k. search rules)
    ∙ sym (list_all-map makes_named said_buf c.args.messages.now)
