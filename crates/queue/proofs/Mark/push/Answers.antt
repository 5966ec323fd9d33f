use Rattle.std.proofs.Common.{◌≡◌, ◌+◌, ◌<◌, ◌≤◌, true, false, ltb, length, set, sym, ap, ◌∙◌, arith}
use Rattle.queue.proofs.Mark.push.Goals as goal
use Rattle.queue.proofs.Rings.{ring_length, ring_push}
use Rattle.queue.specs.Ring.{ring}
use Rattle.std.proofs.lemmas.Bool.{lt-ltb, le-ltb, cond-true, cond-false}

pub returns-then-self-cells : goal.returns-then-self-cells
returns-then-self-cells g c =
    let xs = c.args.cells.now in
    let m = c.args.self.now in
    let long = ring_length xs m.head m.count c.requires.1 in
    let full : ltb (length (ring xs m.head m.count)) (length xs) ≡ false = le-ltb _ _ (omega (arith, long)) in
    record {
      sound = c.requires;
      result = sym (cond-false _ _ _ full);
      items = sym (cond-false _ _ _ full);
    }

pub returns : goal.returns
returns g c =
    let xs = c.args.cells.now in
    let x = c.args.item in
    let m = c.args.self.now in
    let few : m.count < length xs = c.if-self-cells.false in
    let held : 0 < length xs = omega arith in
    let inside : m.head ≤ length xs = omega (arith, c.requires.0 held) in
    let long = ring_length xs m.head m.count c.requires.1 in
    let fits : ltb (length (ring xs m.head m.count)) (length xs) ≡ true = lt-ltb _ _ (omega (arith, long)) in
    record {
      sound = (c.requires.0, omega arith);
      result = sym (cond-true _ _ _ fits);
      items = ap (λ i. ring (set xs i x) m.head (m.count + 1)) c.step.ensures.cell ∙ ring_push xs m.head inside m.count x few ∙ sym (cond-true _ _ _ fits);
    }
