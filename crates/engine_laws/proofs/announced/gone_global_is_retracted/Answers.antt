use Rattle.engine_laws.proofs.RollAnnouncements.{gone_global_is_retracted}
use Rattle.engine_laws.proofs.announced.gone_global_is_retracted.Goals as goal

pub returns : goal.returns
returns c = gone_global_is_retracted
