use Rattle.std.proofs.Common.{◌≡◌, rules, refl, sym, ◌∙◌, map}
use Rattle.std.specs.List.{sum_by}
use Rattle.std.proofs.lemmas.List.Recursion.{is_sum_by}
use Rattle.message.specs.Events.{weight, total}
use Rattle.message.specs.Meaning.{meaning}
use Rattle.message.proofs.event.total.Goals as goal

pub returns : goal.returns
returns c =
    let said = meaning c.args.bytes.now in
    let e : c.sum.result ≡ sum_by (λ a. weight (said a)) c.args.arguments.now = search rules in
    e ∙ sym (is_sum_by (λ l. total (map said l)) (λ a. weight (said a)) refl (λ x l. refl) c.args.arguments.now)
