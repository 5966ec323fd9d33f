use Rattle.engine_laws.proofs.RollAnnouncements.{new_global_is_announced}
use Rattle.engine_laws.proofs.announced.new_global_is_announced.Goals as goal

pub returns : goal.returns
returns c = new_global_is_announced
