use Rattle.queue.proofs.Lists.{laws}
use Rattle.queue.proofs.queue_laws.Goals as goal

pub returns : goal.returns
returns g c = laws
