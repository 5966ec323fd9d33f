use Rattle.std.proofs.Common.{◌<◌, ◌≤◌, length, get_or, Some, ap, ◌∙◌, arith}
use Rattle.queue.proofs.Rings.{ring_at, ring_past}
use Rattle.queue.proofs.Mark.item.Goals as goal

pub returns-then-index-self : goal.returns-then-index-self
returns-then-index-self g c =
    let m = c.args.self in
    ring_past c.args.cells.now m.head m.count c.args.index c.requires.1 c.if-index-self.true

pub returns : goal.returns
returns g c =
    let xs = c.args.cells.now in
    let m = c.args.self in
    let x = c.index-cells-step.result in
    let held : 0 < length xs = omega arith in
    let inside : m.head ≤ length xs = omega (arith, c.requires.0 held) in
    ap Some c.index-cells-step.is
    ∙ ap (λ i. Some (get_or xs i x)) c.step.ensures.cell
    ∙ ring_at xs m.head inside x m.count c.args.index c.if-index-self.false c.requires.1
