use Rattle.std.proofs.Common.{sym, ap, ◌∙◌}
use Rattle.std.proofs.lemmas.Option.{slice_get-map}
use Rattle.std.specs.Option.{option_map}
use Rattle.message.specs.Events.{event_of}
use Rattle.queue.specs.Rows.{items_at}
use Rattle.wire.proofs.queued.QueueWire.event.Goals as goal

pub returns : goal.returns
returns c = ap (option_map event_of) c.get.ensures ∙ sym (slice_get-map event_of (items_at c.args.self.now.events c.args.place) c.args.index)
