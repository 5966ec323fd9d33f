-- The objects of one client, by id, for any kind of data. Id 0 is null; the other ids below the limit lie in the client's
-- table at id - 1, the rest in the server's table at id - limit.
use Rattle.std.specs.Prelude.{ℕ, ◌+◌, ◌-◌, cond, Some, None, Ok, Err, Option, Result, ◌==◌, nat_lt}
use Rattle.std.specs.Option.{option_map}
use Rattle.places.specs.declared.PlaceFault.{PlaceFault}
use Rattle.places.specs.declared.PlaceFault.TheVariants as place
use Rattle.places.specs.declared.table.Table.{Table}
use Rattle.places.specs.Places.{at, entry_at, first_vacant, occupied_from, or_else}
use Rattle.places.specs.Tables.{empty_table, entered_at, entered_in, replaced}
use Rattle.map.specs.declared.fault.InvalidId.{InvalidId}
use Rattle.map.specs.declared.fault.MapFault.{MapFault}
use Rattle.map.specs.declared.fault.MapFault.TheVariants.{Zero, Beyond, Taken, Full}
use Rattle.map.specs.declared.Object.{Object}
use Rattle.map.specs.declared.ObjectMap.{ObjectMap}

-- the first id of the server's half
abbrev pub limit : ℕ
limit = 0xFF00_0000

-- how many places the client's half has
abbrev pub client_places : ℕ
client_places = 64

-- how many places the server's half has
abbrev pub server_places : ℕ
server_places = 32

-- the fault of an id is that of its place
abbrev pub fault_of : PlaceFault → MapFault
fault_of place.Beyond = Beyond
fault_of place.Taken = Taken
fault_of place.Full = Full

-- the answer at an id is that at its place
abbrev pub answer_of : Result (Unit {0}) PlaceFault → Result (Unit {0}) MapFault
answer_of (Ok u) = Ok u
answer_of (Err e) = Err (fault_of e)

-- the error of a name that names no object
abbrev pub invalid : InvalidId
invalid = record {}

module _ {D : Type 0} where
  -- a map with no objects, where no id was ever used
  abbrev pub empty_map : ObjectMap D
  empty_map = record { client_objects = empty_table client_places; server_objects = empty_table server_places }

  -- the object that an id names
  abbrev pub find_in : ObjectMap D → ℕ → Option (Object D)
  find_in m id = cond (id == 0) None (cond (nat_lt id limit) (at m.client_objects.places (id - 1)) (at m.server_objects.places (id - limit)))

  -- the map with another table of the client's half
  abbrev pub with_client : ObjectMap D → Table (Object D) client_places → ObjectMap D
  with_client m t = record { client_objects = t; server_objects = m.server_objects }

  -- the map with another table of the server's half
  abbrev pub with_server : ObjectMap D → Table (Object D) server_places → ObjectMap D
  with_server m t = record { client_objects = m.client_objects; server_objects = t }

  -- the map with another content of the place of an id, if the id names an object
  abbrev pub put_at : ObjectMap D → ℕ → Option (Object D) → ObjectMap D
  put_at m id o =
      cond (id == 0) m
      (cond (nat_lt id limit) (with_client m (replaced m.client_objects (id - 1) o)) (with_server m (replaced m.server_objects (id - limit) o)))

  -- the map after the object that an id names has ended
  abbrev pub removed : ObjectMap D → ℕ → ObjectMap D
  removed m id = put_at m id None

  -- an object with other data
  abbrev pub with_data : Object D → D → Object D
  with_data o d = record { row = o.row; version = o.version; «data» = d }

  -- whether there is an object
  abbrev pub there : Option (Object D) → Result (Unit {0}) InvalidId
  there None = Err invalid
  there (Some o) = Ok tt

  -- the answer of a change of the data of the object that an id names
  abbrev pub data_answer : ObjectMap D → ℕ → Result (Unit {0}) InvalidId
  data_answer m id = there (find_in m id)

  -- the map after a change of the data of the object o, at an id
  abbrev pub data_over : Option (Object D) → ObjectMap D → ℕ → D → ObjectMap D
  data_over None m id d = m
  data_over (Some o) m id d = put_at m id (Some (with_data o d))

  -- the map after a change of the data of the object that an id names
  abbrev pub data_after : ObjectMap D → ℕ → D → ObjectMap D
  data_after m id d = data_over (find_in m id) m id d

  -- the answer of an entry at an id
  abbrev pub insert_answer : ObjectMap D → ℕ → Result (Unit {0}) MapFault
  insert_answer m id =
      cond (id == 0) (Err Zero)
      (cond (nat_lt id limit) (answer_of (entry_at m.client_objects.places m.client_objects.len (id - 1)))
      (answer_of (entry_at m.server_objects.places m.server_objects.len (id - limit))))

  -- the map after an entry at an id
  abbrev pub inserted : ObjectMap D → ℕ → Object D → ObjectMap D
  inserted m id o =
      cond (id == 0) m
      (cond (nat_lt id limit) (with_client m (entered_at m.client_objects (id - 1) o)) (with_server m (entered_at m.server_objects (id - limit) o)))

  -- the id of a new object of the server's half
  abbrev pub new_answer : ObjectMap D → Option ℕ
  new_answer m = option_map (λ i. i + limit) (first_vacant m.server_objects.places m.server_objects.len)

  -- the map after a new object of the server's half, whose place is r
  abbrev pub new_server : Option ℕ → ObjectMap D → Object D → ObjectMap D
  new_server r m o = with_server m (entered_in r m.server_objects o)

  -- the map after a new object of the server's half
  abbrev pub new_after : ObjectMap D → Object D → ObjectMap D
  new_after m o = new_server (first_vacant m.server_objects.places m.server_objects.len) m o

  -- the lowest live id of the server's half whose place is at or above i
  abbrev pub next_server : ObjectMap D → ℕ → Option ℕ
  next_server m i = option_map (λ k. k + limit) (occupied_from m.server_objects.places i)

  -- the lowest live id above an id
  abbrev pub next_after : ObjectMap D → ℕ → Option ℕ
  next_after m id =
      cond (nat_lt id limit) (or_else (option_map (λ k. k + 1) (occupied_from m.client_objects.places id)) (next_server m 0)) (next_server m (id - limit + 1))
