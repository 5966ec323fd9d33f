use Rattle.std.proofs.Common.{None}
use Rattle.laws.proofs.Find as find
use Rattle.laws.proofs.find_laws.Goals as goal

pub returns : goal.returns
returns g c =
    record {
      empty_none = find.empty_none;
      entered_found = find.entered_found;
      entered_others = find.entered_others;
      entered_vacant = find.entered_vacant;
      entered_refused = find.entered_refused;
      removed_none = find.removed_none;
      removed_others = λ m id k. find.put_others m id k None;
      removed_vacant = λ m id. find.put_vacant m id None;
      new_found = find.new_found;
      new_others = find.new_others;
      new_half = find.new_half;
      new_vacant = find.vacant_new;
      new_lowest = find.new_lowest;
      new_full = find.new_full;
      new_refused = find.new_refused;
      data_found = find.data_found;
      data_others = find.data_others;
      data_refused = find.data_refused;
    }
