use Rattle.accounts.proofs.Agrees.{promised}
use Rattle.accounts.proofs.whole.calls_keep_accounts.Goals as goal

pub returns : goal.returns
returns c = promised
