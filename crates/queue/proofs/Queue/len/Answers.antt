use Rattle.queue.proofs.Queue.len.Goals as goal
use Rattle.queue.proofs.Rings.{ring_length}
use Rattle.std.proofs.Common.{sym}

pub returns : goal.returns
returns g c =
    let q = c.args.self.now in
    sym (ring_length q.cells.now q.mark.head q.mark.count q.within.1)
