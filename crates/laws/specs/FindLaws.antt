-- What an id names after each operation, at the same and at another id.
use Rattle.std.specs.Prelude.{◌≡◌, ℕ, ◌+◌, ◌<◌, ◌≤◌, true, ◌≢◌, is_some, Some, None, Ok, Err}
use Rattle.map.specs.declared.fault.MapFault.{MapFault}
use Rattle.map.specs.declared.Object.{Object}
use Rattle.map.specs.declared.ObjectMap.{ObjectMap}
use Rattle.map.specs.Map.{limit, server_places, empty_map, find_in, removed, with_data, invalid, data_answer, data_after, insert_answer, inserted, new_answer, new_after}
use Rattle.laws.specs.Sizes.{Sized, Used}

pub record FindLaws (D : Type 0) : Type 0 where
  -- a new map has no objects
  pub empty_none : (id : ℕ) → find_in (empty_map {D = D}) id ≡ None
  -- after an entry that succeeds, the id names the object
  pub entered_found : (m : ObjectMap D) (id : ℕ) (o : Object D) → insert_answer m id ≡ Ok tt → find_in (inserted m id o) id ≡ Some o
  -- after any entry, every other id names what it named
  pub entered_others : (m : ObjectMap D) (id k : ℕ) (o : Object D) → k ≢ id → find_in (inserted m id o) k ≡ find_in m k
  -- an entry succeeds only at an id that names nothing
  pub entered_vacant : (m : ObjectMap D) (id : ℕ) → insert_answer m id ≡ Ok tt → find_in m id ≡ None
  -- a refused entry leaves the map as it was
  pub entered_refused : (m : ObjectMap D) (id : ℕ) (o : Object D) (f : MapFault) → insert_answer m id ≡ Err f → inserted m id o ≡ m
  -- after a removal, the id names nothing
  pub removed_none : (m : ObjectMap D) (id : ℕ) → find_in (removed m id) id ≡ None
  -- after a removal, every other id names what it named
  pub removed_others : (m : ObjectMap D) (id k : ℕ) → k ≢ id → find_in (removed m id) k ≡ find_in m k
  -- a removal at an id that names nothing leaves the map as it was
  pub removed_vacant : (m : ObjectMap D) (id : ℕ) → find_in m id ≡ None → removed m id ≡ m
  -- after a new object of the server's half, its id names it
  pub new_found : (m : ObjectMap D) (id : ℕ) (o : Object D) → new_answer m ≡ Some id → find_in (new_after m o) id ≡ Some o
  -- after a new object of the server's half, every other id names what it named
  pub new_others : (m : ObjectMap D) (id k : ℕ) (o : Object D) → new_answer m ≡ Some id → k ≢ id → find_in (new_after m o) k ≡ find_in m k
  -- the id of a new object of the server's half lies in that half
  pub new_half : (m : ObjectMap D) (id : ℕ) → new_answer m ≡ Some id → limit ≤ id
  -- the id of a new object of the server's half named nothing before
  pub new_vacant : (m : ObjectMap D) (id : ℕ) → Used m → new_answer m ≡ Some id → find_in m id ≡ None
  -- every id of the server's half below the id of a new object is live: it is the lowest
  pub new_lowest : (m : ObjectMap D) (id k : ℕ) → new_answer m ≡ Some id → limit ≤ k → k < id → is_some (find_in m k) ≡ true
  -- a new object of the server's half is refused only where every id of that half is live
  pub new_full : (m : ObjectMap D) (k : ℕ) → Sized m → new_answer m ≡ None → limit ≤ k → k < limit + server_places → is_some (find_in m k) ≡ true
  -- where the server's half is full, the map stays as it was
  pub new_refused : (m : ObjectMap D) (o : Object D) → new_answer m ≡ None → new_after m o ≡ m
  -- after a change of data, the id names the object with the new data, and its row and version stay
  pub data_found : (m : ObjectMap D) (id : ℕ) (o : Object D) (d : D) → find_in m id ≡ Some o → (data_answer m id ≡ Ok tt) × (find_in (data_after m id d) id ≡ Some (with_data o d))
  -- after a change of data, every other id names what it named
  pub data_others : (m : ObjectMap D) (id k : ℕ) (d : D) → k ≢ id → find_in (data_after m id d) k ≡ find_in m k
  -- a change of data at an id that names nothing is refused, and leaves the map as it was
  pub data_refused : (m : ObjectMap D) (id : ℕ) (d : D) → find_in m id ≡ None → (data_answer m id ≡ Err invalid) × (data_after m id d ≡ m)
