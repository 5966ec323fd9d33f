use Rattle.std.proofs.Common.{◌∙◌, arith}
use Rattle.std.proofs.lemmas.Grind.{common_steps}
use Rattle.places.proofs.Positions.{is_lowest}
use Rattle.places.proofs.first_vacant.Goals as goal

pub returns-clause-answer : goal.returns-clause-answer
returns-clause-answer g c = let e = c.vacant_among.ensures.answer ∙ is_lowest _ in grind (arith, common_steps)
