use Rattle.engine_laws.proofs.Announcements.{new_registry_hears_globals}
use Rattle.engine_laws.proofs.announced.new_registry_hears_globals.Goals as goal

pub returns : goal.returns
returns c = new_registry_hears_globals
