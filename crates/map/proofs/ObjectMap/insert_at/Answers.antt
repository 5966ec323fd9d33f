use Rattle.std.proofs.Common.{sym, ap, ◌∙◌, rules}
use Rattle.map.specs.Map.{answer_of}
use Rattle.map.proofs.Halves.{in_client, in_server}
use Rattle.map.proofs.ObjectMap.insert_at.Goals as goal

pub returns-in_err-enter_at-clause-after : goal.returns-in_err-enter_at-clause-after
returns-in_err-enter_at-clause-after g c = in_client c.args.id _ _ _ _ c.if-id-eq0.false c.if-id-lt-SERVER_ID_LIMIT.true (search rules)

pub returns-in_err-enter_at-2-clause-after : goal.returns-in_err-enter_at-2-clause-after
returns-in_err-enter_at-2-clause-after g c = in_server c.args.id _ _ _ _ c.if-id-eq0.false c.if-id-lt-SERVER_ID_LIMIT.false (search rules)

pub returns-in_ok-enter_at-clause-answer : goal.returns-in_ok-enter_at-clause-answer
returns-in_ok-enter_at-clause-answer g c =
    in_client c.args.id _ _ _ _ c.if-id-eq0.false c.if-id-lt-SERVER_ID_LIMIT.true
    (ap answer_of (sym (c.in_ok-enter_at.was) ∙ c.enter_at.ensures.answer))

pub returns-in_ok-enter_at-clause-after : goal.returns-in_ok-enter_at-clause-after
returns-in_ok-enter_at-clause-after g c = in_client c.args.id _ _ _ _ c.if-id-eq0.false c.if-id-lt-SERVER_ID_LIMIT.true (search rules)

pub returns-in_ok-enter_at-2-clause-answer : goal.returns-in_ok-enter_at-2-clause-answer
returns-in_ok-enter_at-2-clause-answer g c =
    in_server c.args.id _ _ _ _ c.if-id-eq0.false c.if-id-lt-SERVER_ID_LIMIT.false
    (ap answer_of (sym (c.in_ok-enter_at-2.was) ∙ c.enter_at-else-id-lt-SERVER_ID_LIMIT.ensures.answer))

pub returns-in_ok-enter_at-2-clause-after : goal.returns-in_ok-enter_at-2-clause-after
returns-in_ok-enter_at-2-clause-after g c = in_server c.args.id _ _ _ _ c.if-id-eq0.false c.if-id-lt-SERVER_ID_LIMIT.false (search rules)
