use Rattle.std.proofs.Common.{◌-◌, ◌<◌, length, sym, ap, ◌∙◌, arith}
use Rattle.queue.proofs.Mark.pop.Goals as goal
use Rattle.queue.proofs.Mark.pop.Goals.{then-next-cells, else-next-cells}
use Rattle.queue.proofs.Rings.{ring_some, ring_others_on, ring_others_round}
use Rattle.queue.specs.Ring.{ring}

pub overflow_add-next : goal.overflow_add-next
overflow_add-next g c =
    let m = c.args.self.now in
    let some = ring_some c.args.cells.now m.head m.count c.requires.1 _ _ (sym c.in_ok-item.ensures) in
    omega (arith, some, c.requires.0 (omega (arith, some)))

pub overflow_sub-self : goal.overflow_sub-self
overflow_sub-self g c =
    let m = c.args.self.now in
    let some = ring_some c.args.cells.now m.head m.count c.requires.1 _ _ (sym c.in_ok-item.ensures) in
    omega (arith, some)

pub returns-clause-items : goal.returns-clause-items
returns-clause-items g c =
    let xs = c.args.cells.now in
    let m = c.args.self.now in
    let x = c.in_ok-item.field-0.now in
    let some : 0 < m.count = ring_some xs m.head m.count c.requires.1 _ _ (sym c.in_ok-item.ensures) in
    let inside : m.head < length xs = c.requires.0 (omega arith) in
    elim c.if-next-cells.branch [
      | then-next-cells w ↦ ap (λ h. ring xs h (m.count - 1)) w.self-is ∙ ring_others_on xs m.head inside x m.count some c.requires.1 w.if-next-cells.true
      | else-next-cells w ↦ ap (λ h. ring xs h (m.count - 1)) w.self-is ∙ ring_others_round xs m.head inside x m.count some c.requires.1 w.if-next-cells.false
    ]
