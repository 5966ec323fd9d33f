use Rattle.wire.proofs.Laws.{line_laws}
use Rattle.wire.proofs.line_laws.Goals as goal

pub returns : goal.returns
returns c = line_laws
