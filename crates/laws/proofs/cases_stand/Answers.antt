use Rattle.laws.proofs.Worked.{cases}
use Rattle.laws.proofs.cases_stand.Goals as goal

pub returns : goal.returns
returns g c = cases _
