use Rattle.engine_laws.proofs.RefusedLemmas as lemmas
use Rattle.engine_laws.proofs.refused.refusals_change_nothing.Goals as goal

pub returns : goal.returns
returns c = lemmas.refusals_change_nothing
