-- The sizes that every map has, since its arrays are fixed and its lengths count the places ever used.
use Rattle.std.specs.Prelude.{◌≡◌, ◌≤◌, length}
use Rattle.places.specs.Laws.{Counted}
use Rattle.map.specs.declared.ObjectMap.{ObjectMap}
use Rattle.map.specs.Map.{client_places, server_places}

module _ {D : Type 0} where
  -- each table has as many places as its half
  abbrev pub Sized : ObjectMap D → Type 0
  Sized m = (length m.client_objects.places ≡ client_places) × (length m.server_objects.places ≡ server_places)

  -- no place at or above a table's length is occupied
  abbrev pub Used : ObjectMap D → Type 0
  Used m = Counted m.client_objects.places m.client_objects.len × Counted m.server_objects.places m.server_objects.len

  -- no length of the second map is below that of the first
  abbrev pub NotBelow : ObjectMap D → ObjectMap D → Type 0
  NotBelow m n = (m.client_objects.len ≤ n.client_objects.len) × (m.server_objects.len ≤ n.server_objects.len)
