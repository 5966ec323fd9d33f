use Rattle.queue.proofs.Queues.pop_front.Goals as goal
use Rattle.queue.proofs.Shares.{own_items, left_rows, left_rooms}
use Rattle.queue.specs.Ring.{front, others}
use Rattle.std.proofs.Common.{ap, ◌∙◌}

pub returns : goal.returns
returns g c =
    let q = c.args.self.now in
    let s = c.in_ok-low.field-0 in
    let found = c.in_ok-low.ensures.found in
    let is = c.in_ok-low.ensures.value in
    let done = c.pop-result.ensures in
    record {
      result = done.result ∙ ap front (own_items q.cells.now q.marks.now c.args.place s found is);
      items = left_rows q.cells.now q.marks.now c.args.place s found is c.pop-result.new.cells c.pop-result.new.self c.pop-result.auto.cells done.sound others done.items;
      rooms = left_rooms q.cells.now q.marks.now c.args.place s found is c.pop-result.new.cells c.pop-result.new.self c.pop-result.auto.cells done.sound;
    }
