use Rattle.engine_laws.proofs.StepTexts.{texts_fit}
use Rattle.engine_laws.proofs.error_texts.texts_fit.Goals as goal

pub returns : goal.returns
returns c = texts_fit
