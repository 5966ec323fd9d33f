use Rattle.engine_laws.proofs.ToldEnds.{ends_are_told_once}
use Rattle.engine_laws.proofs.ends_once.ends_are_told_once.Goals as goal

pub returns : goal.returns
returns c = ends_are_told_once
