use Rattle.accounts.proofs.Agrees.{whole}
use Rattle.accounts.proofs.whole.accounts_agree.Goals as goal

pub returns : goal.returns
returns c = whole
