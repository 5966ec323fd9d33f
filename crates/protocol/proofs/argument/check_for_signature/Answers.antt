use Rattle.std.proofs.Common.{rules, ◌∙◌}
use Rattle.std.proofs.lemmas.Iterator.Search.{all_from_yields_List}
use Rattle.std.proofs.lemmas.Iterator.{YieldsList-from_slice, YieldsList-from_zip}
use Rattle.protocol.specs.Kinds.{same_type, kind_of}
use Rattle.protocol.proofs.Agree.{lengths_differ, agree_zip}
use Rattle.protocol.proofs.argument.check_for_signature.Goals as goal

pub returns-then-signature-args : goal.returns-then-signature-args
returns-then-signature-args g c =
    let kinds = c.args.signature.now in
    let given = c.args.args.now in
    all_from_yields_List (λ p. same_type (kind_of p.1) p.0) c.all.new.self _ _ c.all.ensures.ran
    (YieldsList-from_zip (YieldsList-from_slice {s = c.zip.result.a} kinds cc) (YieldsList-from_slice {s = c.zip.result.b} given cc)) (λ x b q k. search rules)
    ∙ agree_zip kinds given c.if-signature-args.true

pub returns-else-signature-args : goal.returns-else-signature-args
returns-else-signature-args g c = search (rules, lengths_differ)
