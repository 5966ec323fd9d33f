use Rattle.engine_laws.proofs.KilledLines.{killed_hear_only_delete_id}
use Rattle.engine_laws.proofs.killed.killed_clients_hear_only_delete_id.Goals as goal

pub returns : goal.returns
returns c = killed_hear_only_delete_id
