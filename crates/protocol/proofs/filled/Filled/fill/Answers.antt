use Rattle.std.proofs.Common.{◌≡◌, ◌+◌, ◌-◌, ◌≤◌, true, leb, vec_items, vec_len, sym, ◌∙◌, subst, arith}
use Rattle.std.proofs.lemmas.Bool.{and_parts, leb-true}
use Rattle.protocol.specs.Filling.{filled_rows}
use Rattle.protocol.specs.Model.{meant_buf}
use Rattle.protocol.specs.RowTests.{may_stand}
use Rattle.protocol.specs.Fillings.{rows_length, breaks, stands, all_kept, rows_set}
use Rattle.protocol.proofs.filled.Filled.fill.Goals as goal

pub returns-then-not-may_fill-clause-answer : goal.returns-then-not-may_fill-clause-answer
returns-then-not-may_fill-clause-answer c =
    breaks (filled_rows c.args.self.now) _ c.args.number (meant_buf c.args.row)
    (rows_length (vec_items c.args.self.now.later) c.len.result (c.len.ensures ∙ c.args.self.now.later.ok.0)) c.if-number-rows.false (sym c.if-not-may_fill.ensures)

pub invariant_of-self : goal.invariant_of-self
invariant_of-self c =
    let t = (and_parts (leb 4 c.args.number) (may_stand (c.len.result + 4) (meant_buf c.args.row)) (sym c.if-not-may_fill.ensures)).1 in
    record {
      few = c.args.self.now.few;
      sound =
          all_kept (vec_items c.args.self.now.later) (c.args.number - 4) c.args.row (may_stand (vec_len c.args.self.now.later + 4))
          (subst (λ k. may_stand (k + 4) (meant_buf c.args.row) ≡ true) c.len.ensures t) c.args.self.now.sound;
    }

pub returns : goal.returns
returns c =
    let t = (and_parts (leb 4 c.args.number) (may_stand (c.len.result + 4) (meant_buf c.args.row)) (sym c.if-not-may_fill.ensures)).0 in
    let low : 4 ≤ c.args.number = leb-true 4 c.args.number t in
    record {
      answer =
          stands (filled_rows c.args.self.now) _ c.args.number (meant_buf c.args.row)
          (rows_length (vec_items c.args.self.now.later) c.len.result (c.len.ensures ∙ c.args.self.now.later.ok.0)) c.if-number-rows.false (sym c.if-not-may_fill.ensures);
      after = rows_set (vec_items c.args.self.now.later) (c.args.number - 4) c.args.row c.args.number (omega arith);
    }
