use Rattle.laws.proofs.Kept.{sized_laws}
use Rattle.laws.proofs.sized.Goals as goal

pub returns : goal.returns
returns g c = sized_laws _
