use Rattle.std.proofs.Common.{◌∙◌}
use Rattle.backend.proofs.Listed.{listed}
use Rattle.backend.proofs.policy.ShowListedPolicy.can_view.Goals as goal

pub returns : goal.returns
returns c = c.contains.ensures.value ∙ listed c.args.self.now.pairs.now c.args.data c.args.handler
