use Rattle.wire.proofs.QueuedLaws.{queued_laws}
use Rattle.wire.proofs.queued.queued_laws.Goals as goal

pub returns : goal.returns
returns c = queued_laws
