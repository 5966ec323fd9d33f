use Rattle.laws.proofs.Lookup as lookup
use Rattle.laws.proofs.lookup_laws.Goals as goal

pub returns : goal.returns
returns c =
    record {
      answered = lookup.answered;
      answers = lookup.answers;
      ended = lookup.ended;
      stale = lookup.stale;
      marked = lookup.marked;
      marked_others = lookup.marked_others;
      marked_refused = lookup.marked_refused;
      marked_data = lookup.marked_data;
    }
