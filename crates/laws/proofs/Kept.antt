-- What every operation keeps: the capacities, that no place above a length is used, and that no length falls.
use Rattle.std.proofs.Common.{◌≡◌, ℕ, ◌-◌, ◌≤◌, Bool, true, false, cond, eqb, ltb, length, is_some, Some, None, Ok, Err, Option, Result, refl, ◌∙◌, arith, length-set}
use Rattle.places.specs.declared.table.Table.{Table}
use Rattle.places.specs.Places.{at, first_vacant}
use Rattle.places.specs.Tables.{entered_at, entered_in, replaced}
use Rattle.places.specs.Laws.{Counted}
use Rattle.places.proofs.Entries.{set_counted, put_counted, grown_above, named_capacity, named_counted, named_length}
use Rattle.map.specs.declared.DataMark.{DataMark}
use Rattle.map.specs.declared.fault.InvalidId.{InvalidId}
use Rattle.map.specs.declared.LocalId.{LocalId}
use Rattle.map.specs.declared.Object.{Object}
use Rattle.map.specs.declared.ObjectData.{ObjectData}
use Rattle.map.specs.declared.ObjectMap.{ObjectMap}
use Rattle.map.specs.Map.{limit, client_places, server_places, find_in, with_client, with_server, put_at, with_data, data_over, data_after, inserted, new_after}
use Rattle.map.specs.Named.{lookup_in, with_mark, mark_over, mark_after}
use Rattle.laws.specs.Sizes.{Sized, Used, NotBelow}
use Rattle.laws.specs.LengthLaws.{LengthLaws}
use Rattle.laws.specs.SizedLaws.{Keeps, SizedLaws}
use Rattle.laws.proofs.Find.{at_replicate}

-- what an operation keeps of the map m, in the map n after it
record Kept {D : Type 0} (m n : ObjectMap D) : Type 0 where
  sized : Sized m → Sized n
  used : Used m → Used n
  lengths : NotBelow m n

either : {A : Type 0} (P : A → Type 0) (b : Bool) (x y : A) → (b ≡ true → P x) → P y → P (cond b x y)
either P true x y f h = f refl
either P false x y f h = h

-- what an operation keeps of a table, in the table after it
record KeptTable {T : Type 0} {n : ℕ} (t u : Table T n) : Type 0 where
  capacity : length u.places ≡ length t.places
  counted : Counted t.places t.len → Counted u.places u.len
  rises : t.len ≤ u.len

module _ {T : Type 0} {n : ℕ} where
  replaced_kept : (t : Table T n) (i : ℕ) (o : Option T) → KeptTable t (replaced t i o)
  replaced_kept t i o =
      either (KeptTable t) (is_some (at t.places i)) _ _
      (λ e. record { capacity = length-set t.places i o; counted = put_counted t.places t.len i o e; rises = omega arith })
      (record { capacity = refl; counted = λ c. c; rises = omega arith })

  entered_at_kept : (t : Table T n) (i : ℕ) (x : T) → KeptTable t (entered_at t i x)
  entered_at_kept t i x =
      record { capacity = named_capacity t.places t.len i x; counted = named_counted t.places t.len i x; rises = named_length t.places t.len i }

  entered_in_kept : (r : Option ℕ) (t : Table T n) (x : T) → KeptTable t (entered_in r t x)
  entered_in_kept (Some i) t x =
      record { capacity = length-set t.places i (Some x); counted = set_counted t.places t.len i x; rises = (grown_above t.len i).0 }
  entered_in_kept None t x = record { capacity = refl; counted = λ c. c; rises = omega arith }

module _ {D : Type 0} where
  same : (m : ObjectMap D) → Kept m m
  same m = record { sized = λ z. z; used = λ u. u; lengths = (omega arith, omega arith) }

  in_client : (m : ObjectMap D) (t : Table (Object D) client_places) → KeptTable m.client_objects t → Kept m (with_client m t)
  in_client m t k =
      record { sized = λ z. (k.capacity ∙ z.0, z.1); used = λ u. (k.counted u.0, u.1); lengths = (k.rises, omega arith) }

  in_server : (m : ObjectMap D) (t : Table (Object D) server_places) → KeptTable m.server_objects t → Kept m (with_server m t)
  in_server m t k =
      record { sized = λ z. (z.0, k.capacity ∙ z.1); used = λ u. (u.0, k.counted u.1); lengths = (omega arith, k.rises) }

  put : (m : ObjectMap D) (id : ℕ) (o : Option (Object D)) → Kept m (put_at m id o)
  put m id o =
      either (Kept m) (eqb id 0) _ _ (λ e. same m)
      (either (Kept m) (ltb id limit) _ _ (λ e. in_client m _ (replaced_kept m.client_objects (id - 1) o)) (in_server m _ (replaced_kept m.server_objects (id - limit) o)))

  insert : (m : ObjectMap D) (id : ℕ) (o : Object D) → Kept m (inserted m id o)
  insert m id o =
      either (Kept m) (eqb id 0) _ _ (λ e. same m)
      (either (Kept m) (ltb id limit) _ _ (λ e. in_client m _ (entered_at_kept m.client_objects (id - 1) o)) (in_server m _ (entered_at_kept m.server_objects (id - limit) o)))

  insert_new : (m : ObjectMap D) (o : Object D) → Kept m (new_after m o)
  insert_new m o = in_server m _ (entered_in_kept (first_vacant m.server_objects.places m.server_objects.len) m.server_objects o)

  data_over_lem : (f : Option (Object D)) (m : ObjectMap D) (id : ℕ) (d : D) → Kept m (data_over f m id d)
  data_over_lem None m id d = same m
  data_over_lem (Some o) m id d = put m id (Some (with_data o d))

  set_data : (m : ObjectMap D) (id : ℕ) (d : D) → Kept m (data_after m id d)
  set_data m id d = data_over_lem (find_in m id) m id d

mark_over_lem : (r : Result (Object ObjectData) InvalidId) (m : ObjectMap ObjectData) (name : LocalId) (mark : DataMark) → Kept m (mark_over r m name mark)
mark_over_lem (Ok o) m name mark = put m name.id (Some (with_mark o mark))
mark_over_lem (Err e) m name mark = same m

set_mark : (m : ObjectMap ObjectData) (name : LocalId) (mark : DataMark) → Kept m (mark_after m name mark)
set_mark m name mark = mark_over_lem (lookup_in m name) m name mark

keeps : {D : Type 0} {m n : ObjectMap D} → Kept m n → Keeps m n
keeps k = (k.sized, k.used)

pub sized_laws : (D : Type 0) → SizedLaws D
sized_laws D =
    record {
      new = ((refl, refl), (λ i h. at_replicate 64 i, λ i h. at_replicate 32 i));
      insert = λ m id o. keeps (insert m id o);
      insert_new = λ m o. keeps (insert_new m o);
      remove = λ m id. keeps (put m id None);
      set_data = λ m id d. keeps (set_data m id d);
      set_mark = λ m name mark. keeps (set_mark m name mark);
    }

pub length_laws : (D : Type 0) → LengthLaws D
length_laws D =
    record {
      insert = λ m id o. (insert m id o).lengths;
      insert_new = λ m o. (insert_new m o).lengths;
      remove = λ m id. (put m id None).lengths;
      set_data = λ m id d. (set_data m id d).lengths;
      set_mark = λ m name mark. (set_mark m name mark).lengths;
    }
