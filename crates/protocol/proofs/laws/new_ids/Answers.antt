use Rattle.std.proofs.Common.{rules, ◌≡◌, sym, ◌∙◌}
use Rattle.std.specs.List.{count_by}
use Rattle.protocol.specs.Kinds.{is_new_id}
use Rattle.protocol.proofs.Counts.{counted}
use Rattle.protocol.proofs.laws.new_ids.Goals as goal

pub returns : goal.returns
returns c = let e : c.count.result ≡ count_by is_new_id c.args.signature.now = search rules in e ∙ sym (counted is_new_id c.args.signature.now)
