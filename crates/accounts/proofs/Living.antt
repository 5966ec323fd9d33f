-- How many objects a map holds, and that the walk by next finds as many.
use Rattle.std.proofs.Common.{◌≡◌, ℕ, zero, suc, ◌+◌, ◌-◌, ◌<◌, ◌≤◌, true, false, cond, eqb, ltb, List, [], ◌∷◌, length, drop, set, is_some, Some, None, Ok, Option, sym, refl, ap, ◌∙◌, ⊎_elim, le_of_suc-le-suc, not-suc-le-zero, arith, lit<}
use Rattle.std.proofs.lemmas.List.{drop-drop}
use Rattle.std.proofs.lemmas.Bool.{cond-true, cond-false, cases_lt, cases_Bool, lt-ltb, le-ltb}
use Rattle.std.proofs.lemmas.Bool.Decides.{nat_tests}
use Rattle.std.specs.Option.{option_map}
use Rattle.places.specs.Places.{at, entry_at, first_vacant, occupied, occupied_from, places_after, or_else}
use Rattle.places.specs.Laws.{places_named}
use Rattle.places.proofs.Laws.{entry_within}
use Rattle.places.proofs.Entries.{named_vacant, new_vacant}
use Rattle.places.proofs.Search.{from_occupied, occupied_within}
use Rattle.places.proofs.Vacant.{vacant_within}
use Rattle.map.specs.declared.Object.{Object}
use Rattle.map.specs.declared.ObjectMap.{ObjectMap}
use Rattle.map.specs.Map.{limit, find_in, with_client, with_server, insert_answer, inserted, removed, put_at, new_answer, new_server, new_after, next_after}
use Rattle.laws.specs.Sizes.{Sized, Used}
use Rattle.laws.specs.NextLaws.{Walk, ends, goes}

module _ {T : Type 0} where
  abbrev pub live : List (Option T) → ℕ
  live [] = 0
  live (None ∷ xs) = live xs
  live (Some x ∷ xs) = 1 + live xs

  pub live_filled : (xs : List (Option T)) (i : ℕ) (x : T) → i < length xs → at xs i ≡ None → live (set xs i (Some x)) ≡ 1 + live xs
  live_filled [] i x h e = absurd (not-suc-le-zero h)
  live_filled (None ∷ xs) zero x h e = refl
  live_filled (Some y ∷ xs) zero x h e = let z : ◌≡◌ {A = ℕ} 0 1 = cc in omega arith
  live_filled (None ∷ xs) (suc i) x h e = live_filled xs i x (le_of_suc-le-suc h) e
  live_filled (Some y ∷ xs) (suc i) x h e = ap (λ n. 1 + n) (live_filled xs i x (le_of_suc-le-suc h) e)

  pub live_emptied : (xs : List (Option T)) (i : ℕ) (x : T) → at xs i ≡ Some x → live xs ≡ 1 + live (set xs i None)
  live_emptied [] i x e = let z : ◌≡◌ {A = ℕ} 0 1 = cc in omega arith
  live_emptied (None ∷ xs) zero x e = let z : ◌≡◌ {A = ℕ} 0 1 = cc in omega arith
  live_emptied (Some y ∷ xs) zero x e = refl
  live_emptied (None ∷ xs) (suc i) x e = live_emptied xs i x e
  live_emptied (Some y ∷ xs) (suc i) x e = ap (λ n. 1 + n) (live_emptied xs i x e)

  pub live_replaced : (xs : List (Option T)) (i : ℕ) (x y : T) → at xs i ≡ Some x → live (set xs i (Some y)) ≡ live xs
  live_replaced [] i x y e = refl
  live_replaced (None ∷ xs) zero x y e = let z : ◌≡◌ {A = ℕ} 0 1 = cc in omega arith
  live_replaced (Some q ∷ xs) zero x y e = refl
  live_replaced (None ∷ xs) (suc i) x y e = live_replaced xs i x y e
  live_replaced (Some q ∷ xs) (suc i) x y e = ap (λ n. 1 + n) (live_replaced xs i x y e)

  pub live_named : (xs : List (Option T)) (len i : ℕ) (x : T) → entry_at xs len i ≡ Ok tt → live (places_named xs len i x) ≡ 1 + live xs
  live_named xs len i x e =
      ap (λ r. live (places_after r xs i x)) e ∙ live_filled xs i x (entry_within xs len i e) (named_vacant xs len i e)

  occupied_some : (n : ℕ) (ys : List (Option T)) (k : ℕ) → occupied n ys ≡ Some k → (n ≤ k) × (live ys ≡ 1 + live (drop (suc (k - n)) ys))
  occupied_some n [] k e = let z : ◌≡◌ {A = ℕ} 0 1 = cc in absurd (omega arith)
  occupied_some n (Some x ∷ ys) k e = let q : n ≡ k = cc in (omega arith, ap (λ m. 1 + live (drop m ys)) (let z : 0 ≡ k - n = omega arith in z))
  occupied_some n (None ∷ ys) k e =
      let r = occupied_some (n + 1) ys k e in
      (omega (arith, r.0), r.1 ∙ ap (λ m. 1 + live (drop m ys)) (let z : suc (k - (n + 1)) ≡ k - n = omega (arith, r.0) in z))

  occupied_none : (n : ℕ) (ys : List (Option T)) → occupied n ys ≡ None → live ys ≡ 0
  occupied_none n [] e = refl
  occupied_none n (Some x ∷ ys) e = let z : ◌≡◌ {A = ℕ} 0 1 = cc in omega arith
  occupied_none n (None ∷ ys) e = occupied_none (n + 1) ys e

  from_some : (xs : List (Option T)) (n k : ℕ) → occupied_from xs n ≡ Some k → live (drop n xs) ≡ 1 + live (drop (k + 1) xs)
  from_some xs n k e =
      let r = occupied_some n (drop n xs) k e in
      r.1 ∙ ap (λ (ys : List (Option T)). 1 + live ys) (drop-drop (suc (k - n)) n xs ∙ ap (λ m. drop m xs) (let z : n + suc (k - n) ≡ k + 1 = omega (arith, r.0) in z))

  from_none : (xs : List (Option T)) (n : ℕ) → occupied_from xs n ≡ None → live (drop n xs) ≡ 0
  from_none xs n e = occupied_none n (drop n xs) e

module _ {D : Type 0} where
  abbrev pub living : ObjectMap D → ℕ
  living m = live m.client_objects.places + live m.server_objects.places

  pub living_inserted : (m : ObjectMap D) (id : ℕ) (o : Object D) → insert_answer m id ≡ Ok tt → living (inserted m id o) ≡ 1 + living m
  living_inserted m id o e = grind (arith, nat_tests, live_named)

  -- an id that names an object lies in one of the halves, and its place is changed there
  data Place (m : ObjectMap D) (id : ℕ) (o : Object D) : Type 0 where
    client : at m.client_objects.places (id - 1) ≡ Some o → ((p : Option (Object D)) → put_at m id p ≡ with_client m (record { places = set m.client_objects.places (id - 1) p; len = m.client_objects.len })) → Place m id o
    server : at m.server_objects.places (id - limit) ≡ Some o → ((p : Option (Object D)) → put_at m id p ≡ with_server m (record { places = set m.server_objects.places (id - limit) p; len = m.server_objects.len })) → Place m id o

  place_low : (m : ObjectMap D) (id : ℕ) (o : Object D) → eqb id 0 ≡ false → ltb id limit ≡ true → find_in m id ≡ Some o → Place m id o
  place_low m id o z l e =
      let there : at m.client_objects.places (id - 1) ≡ Some o = sym (cond-false (eqb id 0) _ _ z ∙ cond-true (ltb id limit) _ _ l) ∙ e in
      client there (λ p. cond-false (eqb id 0) _ _ z ∙ (cond-true (ltb id limit) _ _ l ∙ ap (with_client m) (cond-true (is_some (at m.client_objects.places (id - 1))) _ _ (ap is_some there))))

  place_high : (m : ObjectMap D) (id : ℕ) (o : Object D) → eqb id 0 ≡ false → ltb id limit ≡ false → find_in m id ≡ Some o → Place m id o
  place_high m id o z l e =
      let there : at m.server_objects.places (id - limit) ≡ Some o = sym (cond-false (eqb id 0) _ _ z ∙ cond-false (ltb id limit) _ _ l) ∙ e in
      server there (λ p. cond-false (eqb id 0) _ _ z ∙ (cond-false (ltb id limit) _ _ l ∙ ap (with_server m) (cond-true (is_some (at m.server_objects.places (id - limit))) _ _ (ap is_some there))))

  place_of : (m : ObjectMap D) (id : ℕ) (o : Object D) → find_in m id ≡ Some o → Place m id o
  place_of m id o e =
      ⊎_elim
      (λ t. let n : None ≡ Some o = sym (cond-true (eqb id 0) None _ t) ∙ e in let y : ◌≡◌ {A = ℕ} 0 1 = cc in absurd (omega arith))
      (λ z. ⊎_elim (λ l. place_low m id o z l e) (λ l. place_high m id o z l e) (cases_Bool (ltb id limit)))
      (cases_Bool (eqb id 0))

  removed_at : (m : ObjectMap D) (id : ℕ) (o : Object D) → Place m id o → living m ≡ 1 + living (removed m id)
  removed_at m id o (client there put) =
      let f = live_emptied m.client_objects.places (id - 1) o there in
      let g = ap living (put None) in omega (arith, f, g)
  removed_at m id o (server there put) =
      let f = live_emptied m.server_objects.places (id - limit) o there in
      let g = ap living (put None) in omega (arith, f, g)

  pub living_removed : (m : ObjectMap D) (id : ℕ) (o : Object D) → find_in m id ≡ Some o → living m ≡ 1 + living (removed m id)
  living_removed m id o e = removed_at m id o (place_of m id o e)

  put_at_lem : (m : ObjectMap D) (id : ℕ) (o p : Object D) → Place m id o → living (put_at m id (Some p)) ≡ living m
  put_at_lem m id o p (client there put) =
      let f = live_replaced m.client_objects.places (id - 1) o p there in
      let g = ap living (put (Some p)) in omega (arith, f, g)
  put_at_lem m id o p (server there put) =
      let f = live_replaced m.server_objects.places (id - limit) o p there in
      let g = ap living (put (Some p)) in omega (arith, f, g)

  pub living_put : (m : ObjectMap D) (id : ℕ) (o p : Object D) → find_in m id ≡ Some o → living (put_at m id (Some p)) ≡ living m
  living_put m id o p e = put_at_lem m id o p (place_of m id o e)

  new_at : (m : ObjectMap D) (o : Object D) (id : ℕ) → Used m → (r : Option ℕ) → first_vacant m.server_objects.places m.server_objects.len ≡ r → option_map (λ i. i + limit) r ≡ Some id → living (new_server r m o) ≡ 1 + living m
  new_at m o id u None e q = let z : ◌≡◌ {A = ℕ} 0 1 = cc in absurd (omega arith)
  new_at m o id u (Some i) e q =
      omega (arith, live_filled m.server_objects.places i o (vacant_within m.server_objects.places m.server_objects.len i e) (new_vacant m.server_objects.places m.server_objects.len i u.1 e))

  pub living_new : (m : ObjectMap D) (o : Object D) (id : ℕ) → Used m → new_answer m ≡ Some id → living (new_after m o) ≡ 1 + living m
  living_new m o id u e = new_at m o id u _ refl e

  -- how many are above an id
  abbrev above : ObjectMap D → ℕ → ℕ
  above m id = cond (ltb id limit) (live (drop id m.client_objects.places) + live m.server_objects.places) (live (drop (id - limit + 1) m.server_objects.places))

  above_low : (m : ObjectMap D) (id : ℕ) → id < limit → above m id ≡ live (drop id m.client_objects.places) + live m.server_objects.places
  above_low m id h = cond-true (ltb id limit) _ _ (lt-ltb id limit h)

  above_high : (m : ObjectMap D) (id : ℕ) → limit ≤ id → above m id ≡ live (drop (id - limit + 1) m.server_objects.places)
  above_high m id h = cond-false (ltb id limit) _ _ (le-ltb id limit h)

  server_high : (m : ObjectMap D) (i : ℕ) → above m (i + limit) ≡ live (drop (i + 1) m.server_objects.places)
  server_high m i = above_high m (i + limit) (omega arith) ∙ ap (λ n. live (drop n m.server_objects.places)) (let z : i + limit - limit + 1 ≡ i + 1 = omega arith in z)

  next_low : (m : ObjectMap D) (id : ℕ) → id < limit → next_after m id ≡ or_else (option_map (λ k. k + 1) (occupied_from m.client_objects.places id)) (option_map (λ k. k + limit) (occupied_from m.server_objects.places 0))
  next_low m id h = cond-true (ltb id limit) _ _ (lt-ltb id limit h)

  next_high : (m : ObjectMap D) (id : ℕ) → limit ≤ id → next_after m id ≡ option_map (λ k. k + limit) (occupied_from m.server_objects.places (id - limit + 1))
  next_high m id h = cond-false (ltb id limit) _ _ (le-ltb id limit h)

  -- the client's half has at most 64 places, so an id that is found there is below the limit
  some_low : (m : ObjectMap D) → Sized m → (id : ℕ) → id < limit → (k : ℕ) (a b : Option ℕ) → occupied_from m.client_objects.places id ≡ a → occupied_from m.server_objects.places 0 ≡ b
      → or_else (option_map (λ x. x + 1) a) (option_map (λ x. x + limit) b) ≡ Some k → above m id ≡ 1 + above m k
  some_low m z id h k (Some i) b ea eb e =
      let q : i + 1 ≡ k = cc in
      let w = occupied_within m.client_objects.places i (from_occupied m.client_objects.places id i ea) in
      let f = from_some m.client_objects.places id i ea in
      let g = above_low m (i + 1) (omega (arith, w, z.0)) in
      above_low m id h ∙ omega (arith, f, g, ap (above m) q)
  some_low m z id h k None (Some i) ea eb e =
      let q : i + limit ≡ k = cc in
      let f = from_none m.client_objects.places id ea in
      let g = from_some m.server_objects.places 0 i eb in
      let u = server_high m i in
      above_low m id h ∙ omega (arith, f, g, u, ap (above m) q)
  some_low m z id h k None None ea eb e = let y : ◌≡◌ {A = ℕ} 0 1 = cc in absurd (omega arith)

  some_high : (m : ObjectMap D) (id : ℕ) → limit ≤ id → (k : ℕ) (a : Option ℕ) → occupied_from m.server_objects.places (id - limit + 1) ≡ a → option_map (λ x. x + limit) a ≡ Some k → above m id ≡ 1 + above m k
  some_high m id h k (Some i) ea e =
      let q : i + limit ≡ k = cc in
      let g = from_some m.server_objects.places (id - limit + 1) i ea in
      let u = server_high m i in
      above_high m id h ∙ omega (arith, g, u, ap (above m) q)
  some_high m id h k None ea e = let y : ◌≡◌ {A = ℕ} 0 1 = cc in absurd (omega arith)

  none_low : (m : ObjectMap D) (id : ℕ) → id < limit → (a b : Option ℕ) → occupied_from m.client_objects.places id ≡ a → occupied_from m.server_objects.places 0 ≡ b
      → or_else (option_map (λ x. x + 1) a) (option_map (λ x. x + limit) b) ≡ None → above m id ≡ 0
  none_low m id h (Some i) b ea eb e = let y : ◌≡◌ {A = ℕ} 0 1 = cc in absurd (omega arith)
  none_low m id h None (Some i) ea eb e = let y : ◌≡◌ {A = ℕ} 0 1 = cc in absurd (omega arith)
  none_low m id h None None ea eb e = above_low m id h ∙ omega (arith, from_none m.client_objects.places id ea, from_none m.server_objects.places 0 eb)

  none_high : (m : ObjectMap D) (id : ℕ) → limit ≤ id → (a : Option ℕ) → occupied_from m.server_objects.places (id - limit + 1) ≡ a → option_map (λ x. x + limit) a ≡ None → above m id ≡ 0
  none_high m id h (Some i) ea e = let y : ◌≡◌ {A = ℕ} 0 1 = cc in absurd (omega arith)
  none_high m id h None ea e = above_high m id h ∙ from_none m.server_objects.places (id - limit + 1) ea

  next_some : (m : ObjectMap D) → Sized m → (id k : ℕ) → next_after m id ≡ Some k → above m id ≡ 1 + above m k
  next_some m z id k e =
      ⊎_elim (λ h. some_low m z id h k _ _ refl refl (sym (next_low m id h) ∙ e)) (λ h. some_high m id h k _ refl (sym (next_high m id h) ∙ e)) (cases_lt id limit)

  next_none : (m : ObjectMap D) (id : ℕ) → next_after m id ≡ None → above m id ≡ 0
  next_none m id e =
      ⊎_elim (λ h. none_low m id h _ _ refl refl (sym (next_low m id h) ∙ e)) (λ h. none_high m id h _ refl (sym (next_high m id h) ∙ e)) (cases_lt id limit)

  walk_above : (m : ObjectMap D) → Sized m → (id : ℕ) (ks : List ℕ) → Walk m id ks → length ks ≡ above m id
  walk_above m z id [] (ends e) = sym (next_none m id e)
  walk_above m z id (k ∷ ks) (goes e w) = omega (arith, walk_above m z k ks w, next_some m z id k e)

  -- the walk from 0 finds as many objects as there are
  pub walk_living : (m : ObjectMap D) → Sized m → (ks : List ℕ) → Walk m 0 ks → length ks ≡ living m
  walk_living m z ks w = walk_above m z 0 ks w ∙ above_low m 0 (lit< tt)

  -- where next finds nothing from 0 on, there is nothing
  pub none_living : (m : ObjectMap D) → next_after m 0 ≡ None → living m ≡ 0
  none_living m e = sym (above_low m 0 (lit< tt)) ∙ next_none m 0 e
