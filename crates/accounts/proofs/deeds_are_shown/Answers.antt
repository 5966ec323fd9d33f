use Rattle.accounts.proofs.RunTies.{all_tied}
use Rattle.accounts.proofs.deeds_are_shown.Goals as goal

pub returns : goal.returns
returns c = all_tied
