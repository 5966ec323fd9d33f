use Rattle.engine_laws.proofs.OutLemmas as lemmas
use Rattle.engine_laws.proofs.steps.sound_requests_hand_out.Goals as goal

pub returns : goal.returns
returns c = lemmas.sound_requests_hand_out
