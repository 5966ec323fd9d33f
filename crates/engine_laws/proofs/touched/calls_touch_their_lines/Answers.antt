use Rattle.engine_laws.proofs.TouchedLemmas as lemmas
use Rattle.engine_laws.proofs.touched.calls_touch_their_lines.Goals as goal

pub returns : goal.returns
returns c = lemmas.calls_touch_their_lines
