use Rattle.engine_laws.proofs.SlipLemmas.{ruled_out}
use Rattle.engine_laws.proofs.slips.slips_are_ruled_out.Goals as goal

pub returns : goal.returns
returns c = ruled_out
