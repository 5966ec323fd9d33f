use Rattle.engine_laws.proofs.KilledStays.{killed_stay_killed}
use Rattle.engine_laws.proofs.killed.killed_clients_stay_killed.Goals as goal

pub returns : goal.returns
returns c = killed_stay_killed
