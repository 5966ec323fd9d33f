-- What the map's own operations are, as an entry, an end or a change of data.
use Rattle.std.proofs.Common.{◌≡◌, ℕ, Some, None, Ok, Result, refl, ap, ◌∙◌}
use Rattle.map.specs.declared.DataMark.{DataMark}
use Rattle.map.specs.declared.fault.InvalidId.{InvalidId}
use Rattle.map.specs.declared.LocalId.{LocalId}
use Rattle.map.specs.declared.Object.{Object}
use Rattle.map.specs.declared.ObjectData.{ObjectData}
use Rattle.map.specs.declared.ObjectMap.{ObjectMap}
use Rattle.map.specs.Map.{find_in, insert_answer, inserted, removed, new_answer, new_after, put_at}
use Rattle.map.specs.Named.{lookup_in, with_mark, mark_over, mark_after}
use Rattle.laws.specs.Sizes.{Used}
use Rattle.laws.specs.SizedLaws.{SizedLaws}
use Rattle.laws.proofs.Find.{entered_found, entered_others, entered_vacant, removed_none, put_found, put_others, new_found, new_others, vacant_new}
use Rattle.laws.proofs.Kept.{sized_laws}
use Rattle.laws.proofs.Lookup.{answered}
use Rattle.accounts.proofs.Living.{living, living_inserted, living_removed, living_put, living_new}
use Rattle.accounts.proofs.Books.{Entry, Gone, Marked}

abbrev sizes : SizedLaws ObjectData
sizes = sized_laws ObjectData

module _ (m : ObjectMap ObjectData) where
  pub insert_entry : (id : ℕ) (o : Object ObjectData) → insert_answer m id ≡ Ok tt → Entry m id o (inserted m id o)
  insert_entry id o e = record {
    there = entered_found m id o e;
    others = λ j ne. entered_others m id j o ne;
    vacant = entered_vacant m id e;
    counts = living_inserted m id o e;
    keeps_size = (sizes.insert m id o).0;
    keeps_use = (sizes.insert m id o).1;
  }

  pub new_entry : (id : ℕ) (o : Object ObjectData) → Used m → new_answer m ≡ Some id → Entry m id o (new_after m o)
  new_entry id o u e = record {
    there = new_found m id o e;
    others = λ j ne. new_others m id j o e ne;
    vacant = vacant_new m id u e;
    counts = living_new m o id u e;
    keeps_size = (sizes.insert_new m o).0;
    keeps_use = (sizes.insert_new m o).1;
  }

  pub remove_gone : (id : ℕ) (o : Object ObjectData) → find_in m id ≡ Some o → Gone m id (removed m id)
  remove_gone id o e = record {
    none = removed_none m id;
    others = λ j ne. put_others m id j None ne;
    counts = living_removed m id o e;
    keeps_size = (sizes.remove m id).0;
    keeps_use = (sizes.remove m id).1;
  }

  -- where a name names an object, its data is set
  pub mark_marked : (name : LocalId) (o : Object ObjectData) (mark : DataMark) → lookup_in m name ≡ Ok o → Marked m name.id o (with_mark o mark) (mark_after m name mark)
  mark_marked name o mark e =
      let n = answered m name o e in
      let p : mark_after m name mark ≡ put_at m name.id (Some (with_mark o mark)) = ap (λ (r : Result (Object ObjectData) InvalidId). mark_over r m name mark) e in
      record {
        was = n.live;
        there = ap (λ (q : ObjectMap ObjectData). find_in q name.id) p ∙ put_found m name.id (with_mark o mark) o n.live;
        serial_stays = refl;
        row_stays = refl;
        others = λ j ne. ap (λ (q : ObjectMap ObjectData). find_in q j) p ∙ put_others m name.id j (Some (with_mark o mark)) ne;
        counts = ap living p ∙ living_put m name.id o (with_mark o mark) n.live;
        keeps_size = (sizes.set_mark m name mark).0;
        keeps_use = (sizes.set_mark m name mark).1;
      }
