-- When a name names an object, and that a name whose id has been used anew names nothing.
use Rattle.std.specs.Prelude.{◌≡◌, ℕ, ◌≢◌, Some, Ok, Err}
use Rattle.map.specs.declared.DataMark.{DataMark}
use Rattle.map.specs.declared.fault.InvalidId.{InvalidId}
use Rattle.map.specs.declared.LocalId.{LocalId}
use Rattle.map.specs.declared.Object.{Object}
use Rattle.map.specs.declared.ObjectData.{ObjectData}
use Rattle.map.specs.declared.ObjectMap.{ObjectMap}
use Rattle.map.specs.Map.{find_in, removed, inserted, invalid, data_after}
use Rattle.map.specs.Named.{lookup_in, with_mark, mark_answer, mark_after}

-- the id of the name is live, and its object is o, under the serial and the row of the name
pub record Names (m : ObjectMap ObjectData) (name : LocalId) (o : Object ObjectData) : Type 0 where
  pub live : find_in m name.id ≡ Some o
  pub serial_agrees : o.«data».serial ≡ name.serial
  pub row_agrees : o.row ≡ name.row

pub record LookupLaws : Type 0 where
  -- a look-up answers an object only where the id is live under the name's serial and row
  pub answered : (m : ObjectMap ObjectData) (name : LocalId) (o : Object ObjectData) → lookup_in m name ≡ Ok o → Names m name o
  -- and it answers it wherever that is so
  pub answers : (m : ObjectMap ObjectData) (name : LocalId) (o : Object ObjectData) → Names m name o → lookup_in m name ≡ Ok o
  -- after the object has ended, its name names nothing
  pub ended : (m : ObjectMap ObjectData) (name : LocalId) → lookup_in (removed m name.id) name ≡ Err invalid
  -- after the id has been used anew, for an object with another serial, the old name names nothing
  pub stale : (m : ObjectMap ObjectData) (name : LocalId) (o : Object ObjectData) → o.«data».serial ≢ name.serial → lookup_in (inserted (removed m name.id) name.id o) name ≡ Err invalid
  -- after a change of the mark, the name names the object with the new mark; its serial, row and version stay
  pub marked : (m : ObjectMap ObjectData) (name : LocalId) (o : Object ObjectData) (mark : DataMark) → lookup_in m name ≡ Ok o → (mark_answer m name ≡ Ok tt) × (lookup_in (mark_after m name mark) name ≡ Ok (with_mark o mark))
  -- after a change of the mark, every other id names what it named
  pub marked_others : (m : ObjectMap ObjectData) (name : LocalId) (k : ℕ) (mark : DataMark) → k ≢ name.id → find_in (mark_after m name mark) k ≡ find_in m k
  -- a change of the mark is refused where the name names nothing, and leaves the map as it was
  pub marked_refused : (m : ObjectMap ObjectData) (name : LocalId) (mark : DataMark) (e : InvalidId) → lookup_in m name ≡ Err e → (mark_answer m name ≡ Err e) × (mark_after m name mark ≡ m)
  -- a change of the mark is a change of the data that keeps the serial, so what holds of the one holds of the other
  pub marked_data : (m : ObjectMap ObjectData) (name : LocalId) (o : Object ObjectData) (mark : DataMark) → lookup_in m name ≡ Ok o → mark_after m name mark ≡ data_after m name.id (record { serial = name.serial; mark = mark })
