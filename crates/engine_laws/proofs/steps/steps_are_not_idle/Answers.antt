use Rattle.engine_laws.proofs.StepLemmas as lemmas
use Rattle.engine_laws.proofs.steps.steps_are_not_idle.Goals as goal

pub returns : goal.returns
returns c = lemmas.steps_are_not_idle
