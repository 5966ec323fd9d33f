use Rattle.std.proofs.Common.{◌+◌, ◌-◌, length, vec_items, vec_len, refl, ap, ◌∙◌, arith}
use Rattle.std.proofs.lemmas.List.{length-map, length-replicate}
use Rattle.protocol.specs.Tallies.{all}
use Rattle.protocol.specs.CoreRows.{blank}
use Rattle.protocol.specs.Model.{meant_buf}
use Rattle.protocol.specs.RowTests.{may_stand}
use Rattle.protocol.specs.TalliesLemmas.{all_replicate}
use Rattle.protocol.proofs.filled.Filled.new.Goals as goal

-- blank rows keep the laws, and there are as many as asked for
pub invariant_of-result : goal.invariant_of-result
invariant_of-result c =
    let rows = c.in_ok-later.later in
    let blanks = c.in_ok-later.ensures in
    record {
      few = omega (arith, rows.ok.0, length-map (vec_items rows) meant_buf, ap length blanks, length-replicate (c.args.rows - 4) blank);
      sound = ap (all (may_stand (vec_len rows + 4))) blanks ∙ all_replicate (may_stand (vec_len rows + 4)) (c.args.rows - 4) blank refl;
    }
