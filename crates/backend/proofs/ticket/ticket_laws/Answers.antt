use Rattle.backend.proofs.Equal.{tickets}
use Rattle.backend.proofs.ticket.ticket_laws.Goals as goal

pub returns : goal.returns
returns c = tickets
