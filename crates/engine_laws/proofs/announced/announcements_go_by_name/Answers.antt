use Rattle.engine_laws.proofs.RisingNames.{announcements_go_by_name}
use Rattle.engine_laws.proofs.announced.announcements_go_by_name.Goals as goal

pub returns : goal.returns
returns c = announcements_go_by_name
