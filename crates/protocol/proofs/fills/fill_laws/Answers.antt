use Rattle.protocol.proofs.FillLaws.{fill_laws}
use Rattle.protocol.proofs.fills.fill_laws.Goals as goal

pub returns : goal.returns
returns c = fill_laws
