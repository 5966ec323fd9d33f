use Rattle.engine_laws.proofs.Worked.{cases}
use Rattle.engine_laws.proofs.cases.cases_stand.Goals as goal

pub returns : goal.returns
returns c = cases
