-- No operation makes a length fall: a place once used stays counted.
use Rattle.std.specs.Prelude.{ℕ}
use Rattle.map.specs.declared.DataMark.{DataMark}
use Rattle.map.specs.declared.LocalId.{LocalId}
use Rattle.map.specs.declared.Object.{Object}
use Rattle.map.specs.declared.ObjectData.{ObjectData}
use Rattle.map.specs.declared.ObjectMap.{ObjectMap}
use Rattle.map.specs.Map.{removed, data_after, inserted, new_after}
use Rattle.map.specs.Named.{mark_after}
use Rattle.laws.specs.Sizes.{NotBelow}

pub record LengthLaws (D : Type 0) : Type 0 where
  -- after an entry at an id, whatever the answer
  pub insert : (m : ObjectMap D) (id : ℕ) (o : Object D) → NotBelow m (inserted m id o)
  -- after a new object of the server's half, whatever the answer
  pub insert_new : (m : ObjectMap D) (o : Object D) → NotBelow m (new_after m o)
  -- after a removal
  pub remove : (m : ObjectMap D) (id : ℕ) → NotBelow m (removed m id)
  -- after a change of data
  pub set_data : (m : ObjectMap D) (id : ℕ) (d : D) → NotBelow m (data_after m id d)
  -- after a change of a mark
  pub set_mark : (m : ObjectMap ObjectData) (name : LocalId) (mark : DataMark) → NotBelow m (mark_after m name mark)
