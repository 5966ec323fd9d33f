use Rattle.laws.proofs.Next as next
use Rattle.laws.proofs.Walk as walk
use Rattle.laws.proofs.next_laws.Goals as goal

pub returns : goal.returns
returns g c =
    record {
      above = next.above;
      live = next.live;
      least = next.least;
      last = next.last;
      walk_ends = walk.walk_ends;
      walk_lists = λ m ks z. walk.walk_lists m z ks;
    }
