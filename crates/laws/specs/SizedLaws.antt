-- A new map has its capacities, and no used place above its lengths; every operation keeps both.
use Rattle.std.specs.Prelude.{ℕ}
use Rattle.map.specs.declared.DataMark.{DataMark}
use Rattle.map.specs.declared.LocalId.{LocalId}
use Rattle.map.specs.declared.Object.{Object}
use Rattle.map.specs.declared.ObjectData.{ObjectData}
use Rattle.map.specs.declared.ObjectMap.{ObjectMap}
use Rattle.map.specs.Map.{empty_map, removed, data_after, inserted, new_after}
use Rattle.map.specs.Named.{mark_after}
use Rattle.laws.specs.Sizes.{Sized, Used}

-- both sizes hold of a map
abbrev pub Sound : {D : Type 0} → ObjectMap D → Type 0
Sound m = Sized m × Used m

-- where both sizes hold of the first map, they hold of the second
abbrev pub Keeps : {D : Type 0} → ObjectMap D → ObjectMap D → Type 0
Keeps m n = (Sized m → Sized n) × (Used m → Used n)

pub record SizedLaws (D : Type 0) : Type 0 where
  -- of a new map
  pub new : Sound (empty_map {D = D})
  -- after an entry at an id, whatever the answer
  pub insert : (m : ObjectMap D) (id : ℕ) (o : Object D) → Keeps m (inserted m id o)
  -- after a new object of the server's half, whatever the answer
  pub insert_new : (m : ObjectMap D) (o : Object D) → Keeps m (new_after m o)
  -- after a removal
  pub remove : (m : ObjectMap D) (id : ℕ) → Keeps m (removed m id)
  -- after a change of data
  pub set_data : (m : ObjectMap D) (id : ℕ) (d : D) → Keeps m (data_after m id d)
  -- after a change of a mark
  pub set_mark : (m : ObjectMap ObjectData) (name : LocalId) (mark : DataMark) → Keeps m (mark_after m name mark)
