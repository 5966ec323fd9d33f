-- What an id names after each operation.
use Rattle.std.proofs.Common.{◌≡◌, ℕ, zero, suc, ◌+◌, ◌-◌, ◌<◌, ◌≤◌, Bool, true, false, cond, eqb, ltb, ◌≢◌, set, replicate, is_some, Some, None, Ok, Err, Option, refl, ap, ◌∙◌, arith}
use Rattle.std.proofs.lemmas.Bool.Decides.{nat_tests}
use Rattle.std.specs.Option.{option_map}
use Rattle.places.specs.Places.{at, first_vacant}
use Rattle.places.proofs.Laws.{at_set_none, at_set_same, at_set_other, entry_within, entry_vacant}
use Rattle.places.proofs.Entries.{none_if, new_vacant}
use Rattle.places.proofs.Search.{occupied_within}
use Rattle.places.proofs.Vacant.{vacant_within, vacant_least, vacant_nowhere}
use Rattle.map.specs.declared.fault.MapFault.{MapFault}
use Rattle.map.specs.declared.Object.{Object}
use Rattle.map.specs.declared.ObjectMap.{ObjectMap}
use Rattle.map.specs.Map.{limit, client_places, server_places, empty_map, find_in, put_at, removed, with_data, invalid, there, data_answer, data_over, data_after, insert_answer, inserted, new_answer, new_server, new_after}
use Rattle.laws.specs.Sizes.{Sized, Used}

pub at_replicate : {T : Type 0} (n i : ℕ) → at (replicate {A = Option T} n None) i ≡ None
at_replicate zero i = refl
at_replicate (suc n) zero = refl
at_replicate (suc n) (suc i) = at_replicate n i

none_both : {T : Type 0} (b c : Bool) (x y : Option T) → x ≡ None → y ≡ None → cond b None (cond c x y) ≡ None
none_both true c x y p q = refl
none_both false true x y p q = p
none_both false false x y p q = q

new_half_at : (id : ℕ) (r : Option ℕ) → option_map (λ i. i + limit) r ≡ Some id → limit ≤ id
new_half_at id (Some i) q = let s : i + limit ≡ id = cc in omega arith
new_half_at id None q = let z : ◌≡◌ {A = ℕ} 0 1 = cc in absurd (omega arith)

module _ {D : Type 0} where
  pub empty_none : (id : ℕ) → find_in (empty_map {D = D}) id ≡ None
  empty_none id = none_both (eqb id 0) (ltb id limit) _ _ (at_replicate client_places (id - 1)) (at_replicate server_places (id - limit))

  pub entered_found : (m : ObjectMap D) (id : ℕ) (o : Object D) → insert_answer m id ≡ Ok tt → find_in (inserted m id o) id ≡ Some o
  entered_found m id o e = grind (arith, nat_tests, at_set_same, entry_within)

  pub entered_others : (m : ObjectMap D) (id k : ℕ) (o : Object D) → k ≢ id → find_in (inserted m id o) k ≡ find_in m k
  entered_others m id k o h = grind (arith, nat_tests, at_set_other)

  pub entered_vacant : (m : ObjectMap D) (id : ℕ) → insert_answer m id ≡ Ok tt → find_in m id ≡ None
  entered_vacant m id e = grind (arith, nat_tests, entry_vacant)

  pub entered_refused : (m : ObjectMap D) (id : ℕ) (o : Object D) (f : MapFault) → insert_answer m id ≡ Err f → inserted m id o ≡ m
  entered_refused m id o f e = grind (arith, nat_tests)

  pub put_found : (m : ObjectMap D) (id : ℕ) (o p : Object D) → find_in m id ≡ Some p → find_in (put_at m id (Some o)) id ≡ Some o
  put_found m id o p e = grind (arith, nat_tests, at_set_same, occupied_within)

  pub put_others : (m : ObjectMap D) (id k : ℕ) (o : Option (Object D)) → k ≢ id → find_in (put_at m id o) k ≡ find_in m k
  put_others m id k o h = grind (arith, nat_tests, at_set_other)

  pub put_vacant : (m : ObjectMap D) (id : ℕ) (o : Option (Object D)) → find_in m id ≡ None → put_at m id o ≡ m
  put_vacant m id o e = grind (arith, nat_tests)

  pub removed_none : (m : ObjectMap D) (id : ℕ) → find_in (removed m id) id ≡ None
  removed_none m id = grind (arith, nat_tests, at_set_none, none_if)

  new_found_at : (m : ObjectMap D) (id : ℕ) (o : Object D) (r : Option ℕ) → first_vacant m.server_objects.places m.server_objects.len ≡ r → option_map (λ i. i + limit) r ≡ Some id → find_in (new_server r m o) id ≡ Some o
  new_found_at m id o (Some i) e q =
      let w = vacant_within m.server_objects.places m.server_objects.len i e in
      let k : i + limit ≡ id = cc in
      let p : id - limit ≡ i = omega arith in
      let f : at (set m.server_objects.places i (Some o)) (id - limit) ≡ Some o
      = ap (at (set m.server_objects.places i (Some o))) p ∙ at_set_same m.server_objects.places i (Some o) w in
      grind (arith, nat_tests)
  new_found_at m id o None e q = let z : ◌≡◌ {A = ℕ} 0 1 = cc in absurd (omega arith)

  pub new_found : (m : ObjectMap D) (id : ℕ) (o : Object D) → new_answer m ≡ Some id → find_in (new_after m o) id ≡ Some o
  new_found m id o e = new_found_at m id o _ refl e

  new_others_at : (m : ObjectMap D) (id k : ℕ) (o : Object D) (r : Option ℕ) → option_map (λ i. i + limit) r ≡ Some id → k ≢ id → find_in (new_server r m o) k ≡ find_in m k
  new_others_at m id k o (Some i) q h = let s : i + limit ≡ id = cc in grind (arith, nat_tests, at_set_other)
  new_others_at m id k o None q h = refl

  pub new_others : (m : ObjectMap D) (id k : ℕ) (o : Object D) → new_answer m ≡ Some id → k ≢ id → find_in (new_after m o) k ≡ find_in m k
  new_others m id k o e h = new_others_at m id k o _ e h

  pub new_half : (m : ObjectMap D) (id : ℕ) → new_answer m ≡ Some id → limit ≤ id
  new_half m id e = new_half_at id _ e

  new_vacant_at : (m : ObjectMap D) (id : ℕ) → Used m → (r : Option ℕ) → first_vacant m.server_objects.places m.server_objects.len ≡ r → option_map (λ i. i + limit) r ≡ Some id → find_in m id ≡ None
  new_vacant_at m id u (Some i) e q =
      let v = new_vacant m.server_objects.places m.server_objects.len i u.1 e in
      let k : i + limit ≡ id = cc in grind (arith, nat_tests)
  new_vacant_at m id u None e q = let z : ◌≡◌ {A = ℕ} 0 1 = cc in absurd (omega arith)

  pub vacant_new : (m : ObjectMap D) (id : ℕ) → Used m → new_answer m ≡ Some id → find_in m id ≡ None
  vacant_new m id u e = new_vacant_at m id u _ refl e

  new_lowest_at : (m : ObjectMap D) (id k : ℕ) (r : Option ℕ) → first_vacant m.server_objects.places m.server_objects.len ≡ r → option_map (λ i. i + limit) r ≡ Some id → limit ≤ k → k < id → is_some (find_in m k) ≡ true
  new_lowest_at m id k (Some i) e q a b =
      let s : i + limit ≡ id = cc in
      let l = vacant_least m.server_objects.places m.server_objects.len i (k - limit) e (omega arith) in
      grind (arith, nat_tests)
  new_lowest_at m id k None e q a b = let z : ◌≡◌ {A = ℕ} 0 1 = cc in absurd (omega arith)

  pub new_lowest : (m : ObjectMap D) (id k : ℕ) → new_answer m ≡ Some id → limit ≤ k → k < id → is_some (find_in m k) ≡ true
  new_lowest m id k e a b = new_lowest_at m id k _ refl e a b

  new_full_at : (m : ObjectMap D) (k : ℕ) → Sized m → (r : Option ℕ) → first_vacant m.server_objects.places m.server_objects.len ≡ r → option_map (λ i. i + limit) r ≡ None → limit ≤ k → k < limit + server_places → is_some (find_in m k) ≡ true
  new_full_at m k z (Some i) e q a b = let y : ◌≡◌ {A = ℕ} 0 1 = cc in absurd (omega arith)
  new_full_at m k z None e q a b =
      let l = (vacant_nowhere m.server_objects.places m.server_objects.len e).1 (k - limit) (omega (arith, z.1)) in
      grind (arith, nat_tests)

  pub new_full : (m : ObjectMap D) (k : ℕ) → Sized m → new_answer m ≡ None → limit ≤ k → k < limit + server_places → is_some (find_in m k) ≡ true
  new_full m k z e a b = new_full_at m k z _ refl e a b

  new_refused_at : (m : ObjectMap D) (o : Object D) (r : Option ℕ) → option_map (λ i. i + limit) r ≡ None → new_server r m o ≡ m
  new_refused_at m o (Some i) q = let z : ◌≡◌ {A = ℕ} 0 1 = cc in absurd (omega arith)
  new_refused_at m o None q = refl

  pub new_refused : (m : ObjectMap D) (o : Object D) → new_answer m ≡ None → new_after m o ≡ m
  new_refused m o e = new_refused_at m o _ e

  pub data_found : (m : ObjectMap D) (id : ℕ) (o : Object D) (d : D) → find_in m id ≡ Some o → (data_answer m id ≡ Ok tt) × (find_in (data_after m id d) id ≡ Some (with_data o d))
  data_found m id o d e =
      (ap there e, ap (λ f. find_in (data_over f m id d) id) e ∙ put_found m id (with_data o d) o e)

  data_others_at : (m : ObjectMap D) (id k : ℕ) (d : D) (f : Option (Object D)) → k ≢ id → find_in (data_over f m id d) k ≡ find_in m k
  data_others_at m id k d None h = refl
  data_others_at m id k d (Some o) h = put_others m id k (Some (with_data o d)) h

  pub data_others : (m : ObjectMap D) (id k : ℕ) (d : D) → k ≢ id → find_in (data_after m id d) k ≡ find_in m k
  data_others m id k d h = data_others_at m id k d (find_in m id) h

  pub data_refused : (m : ObjectMap D) (id : ℕ) (d : D) → find_in m id ≡ None → (data_answer m id ≡ Err invalid) × (data_after m id d ≡ m)
  data_refused m id d e = (ap there e, ap (λ f. data_over f m id d) e)
