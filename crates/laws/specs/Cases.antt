-- Worked cases of an entry at an id: at a map that holds only the id 1, and at one whose client's half was used up.
use Rattle.std.specs.Prelude.{◌≡◌, Some, Ok, Err}
use Rattle.map.specs.declared.fault.MapFault.TheVariants.{Zero, Beyond, Taken, Full}
use Rattle.map.specs.declared.Object.{Object}
use Rattle.map.specs.declared.ObjectMap.{ObjectMap}
use Rattle.map.specs.Map.{client_places, empty_map, find_in, insert_answer, inserted}
use Rattle.laws.specs.Sizes.{Sized}

-- a map that holds only the object o, at the id 1
abbrev pub only_one : {D : Type 0} → Object D → ObjectMap D
only_one o = inserted empty_map 1 o

pub record Cases (D : Type 0) : Type 0 where
  -- the id 1 is the object's
  pub one_there : (o : Object D) → find_in (only_one o) 1 ≡ Some o
  -- 0 is null
  pub zero_refused : (o : Object D) → insert_answer (only_one o) 0 ≡ Err Zero
  -- 2 comes next
  pub two_entered : (o : Object D) → insert_answer (only_one o) 2 ≡ Ok tt
  -- 3 is not the next
  pub three_beyond : (o : Object D) → insert_answer (only_one o) 3 ≡ Err Beyond
  -- the first id of the server's half has a table of its own
  pub server_entered : (o : Object D) → insert_answer (only_one o) 0xFF00_0000 ≡ Ok tt
  -- 1 names an object
  pub one_taken : (o : Object D) → insert_answer (only_one o) 1 ≡ Err Taken
  -- with all 64 places of the client's half used before, 65 is full, whatever is vacant below
  pub last_full : (m : ObjectMap D) → Sized m → m.client_objects.len ≡ client_places → insert_answer m 65 ≡ Err Full
  -- and 66 is beyond
  pub past_beyond : (m : ObjectMap D) → Sized m → m.client_objects.len ≡ client_places → insert_answer m 66 ≡ Err Beyond
