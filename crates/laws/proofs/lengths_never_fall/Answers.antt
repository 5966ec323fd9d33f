use Rattle.laws.proofs.Kept.{length_laws}
use Rattle.laws.proofs.lengths_never_fall.Goals as goal

pub returns : goal.returns
returns g c = length_laws _
