use Rattle.engine_laws.proofs.StepTexts.{failures_are_told}
use Rattle.engine_laws.proofs.error_texts.failures_are_told.Goals as goal

pub returns : goal.returns
returns c = failures_are_told
