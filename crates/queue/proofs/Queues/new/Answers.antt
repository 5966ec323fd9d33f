use Rattle.queue.proofs.Queues.new.Goals as goal
use Rattle.queue.proofs.Starts.{no_rows, first_rooms}
use Rattle.queue.specs.Marks.{fresh}
use Rattle.std.proofs.Common.{◌≡◌, length, replicate, refl, ap, ◌∙◌}

pub returns : goal.returns
returns g c =
    let cells = c.args.cells.now in
    let marks = c.args.marks.now in
    let filled : c.fill.new.self ≡ replicate (length marks) fresh = c.fill.ensures.after (λ y e. e) ∙ ap (replicate (length marks)) c.new.ensures in
    record { items = no_rows cells marks c.fill.new.self filled; rooms = first_rooms cells marks c.fill.new.self filled; lenders = (refl, refl) }
