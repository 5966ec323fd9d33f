use Rattle.places.proofs.Entries as entries
use Rattle.places.proofs.Vacant as vacant
use Rattle.places.proofs.Search as found
use Rattle.places.proofs.table_laws.Goals as goal

pub returns : goal.returns
returns g c =
    record {
      named_holds = entries.named_holds;
      named_vacant = entries.named_vacant;
      named_others = entries.named_others;
      named_refused = entries.named_refused;
      named_length = entries.named_length;
      new_length = entries.new_length;
      vacant_there = vacant.vacant_there;
      vacant_within = vacant.vacant_within;
      vacant_least = vacant.vacant_least;
      vacant_nowhere = vacant.vacant_nowhere;
      new_holds = entries.new_holds;
      new_others = entries.new_others;
      new_refused = entries.new_refused;
      new_vacant = entries.new_vacant;
      named_counted = entries.named_counted;
      new_counted = entries.new_counted;
      taken_counted = entries.taken_counted;
      put_counted = entries.put_counted;
      occupied_above = found.from_above;
      occupied_there = found.from_occupied;
      occupied_least = λ xs n k j e. found.from_least xs n k e j;
      occupied_nowhere = λ xs n j e. found.from_nowhere xs n e j;
    }
