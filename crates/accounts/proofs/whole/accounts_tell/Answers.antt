use Rattle.accounts.proofs.Hollow.{telling}
use Rattle.accounts.proofs.whole.accounts_tell.Goals as goal

pub returns : goal.returns
returns c = telling
