-- Where the next id lies, and the laws of one step of the walk.
use Rattle.std.proofs.Common.{◌≡◌, ℕ, ◌+◌, ◌-◌, ◌<◌, ◌≤◌, true, is_some, Some, None, Option, sym, refl, ◌∙◌, ⊎_elim, arith}
use Rattle.std.proofs.lemmas.Bool.Decides.{nat_tests}
use Rattle.std.proofs.lemmas.Bool.{cases_lt, cond-true, cond-false, lt-ltb, le-ltb}
use Rattle.std.specs.Option.{option_map}
use Rattle.places.specs.Places.{occupied_from, or_else}
use Rattle.places.proofs.Search.{from_above, from_occupied, from_least, from_nowhere, occupied_within}
use Rattle.map.specs.declared.ObjectMap.{ObjectMap}
use Rattle.map.specs.Map.{find_in, next_after, limit}
use Rattle.laws.specs.Sizes.{Sized}

-- where the next id lies
data Where {D : Type 0} (m : ObjectMap D) (id k : ℕ) : Type 0 where
  client : (i : ℕ) → id < limit → occupied_from m.client_objects.places id ≡ Some i → k ≡ i + 1 → Where m id k
  server : (i : ℕ) → id < limit → occupied_from m.client_objects.places id ≡ None → occupied_from m.server_objects.places 0 ≡ Some i → k ≡ i + limit → Where m id k
  beyond : (i : ℕ) → limit ≤ id → occupied_from m.server_objects.places (id - limit + 1) ≡ Some i → k ≡ i + limit → Where m id k

never : (k : ℕ) → None ≡ Some k → ⊥
never k e = let z : ◌≡◌ {A = ℕ} 0 1 = cc in omega arith

module _ {D : Type 0} (m : ObjectMap D) (id k : ℕ) where
  low : (o s : Option ℕ) → occupied_from m.client_objects.places id ≡ o → occupied_from m.server_objects.places 0 ≡ s → id < limit → or_else (option_map (λ x. x + 1) o) (option_map (λ x. x + limit) s) ≡ Some k → Where m id k
  low (Some i) s eo es h e = client i h eo (let q : i + 1 ≡ k = cc in sym q)
  low None (Some i) eo es h e = server i h eo es (let q : i + limit ≡ k = cc in sym q)
  low None None eo es h e = absurd (never k e)

  high : (s : Option ℕ) → occupied_from m.server_objects.places (id - limit + 1) ≡ s → limit ≤ id → option_map (λ x. x + limit) s ≡ Some k → Where m id k
  high (Some i) es h e = beyond i h es (let q : i + limit ≡ k = cc in sym q)
  high None es h e = absurd (never k e)

  where_is : next_after m id ≡ Some k → Where m id k
  where_is e =
      ⊎_elim
      (λ h. low _ _ refl refl h (sym (cond-true _ _ _ (lt-ltb id limit h)) ∙ e))
      (λ h. high _ refl h (sym (cond-false _ _ _ (le-ltb id limit h)) ∙ e))
      (cases_lt id limit)

  above_at : Where m id k → id < k
  above_at (client i h o q) = omega (arith, from_above m.client_objects.places id i o)
  above_at (server i h o s q) = omega arith
  above_at (beyond i h s q) = omega (arith, from_above m.server_objects.places (id - limit + 1) i s)

  live_at : Sized m → Where m id k → is_some (find_in m k) ≡ true
  live_at z (client i h o q) =
      let f = from_occupied m.client_objects.places id i o in
      let w = occupied_within m.client_objects.places i f in grind (arith, nat_tests)
  live_at z (server i h o s q) = let f = from_occupied m.server_objects.places 0 i s in grind (arith, nat_tests)
  live_at z (beyond i h s q) = let f = from_occupied m.server_objects.places (id - limit + 1) i s in grind (arith, nat_tests)

  least_at : Sized m → (j : ℕ) → id < j → j < k → Where m id k → find_in m j ≡ None
  least_at z j a b (client i h o q) =
      let w = occupied_within m.client_objects.places i (from_occupied m.client_objects.places id i o) in
      let f = from_least m.client_objects.places id i o (j - 1) (omega arith) (omega arith) in grind (arith, nat_tests)
  least_at z j a b (server i h o s q) =
      ⊎_elim
      (λ l. let f = from_nowhere m.client_objects.places id o (j - 1) (omega arith) in grind (arith, nat_tests))
      (λ l. let f = from_least m.server_objects.places 0 i s (j - limit) (omega arith) (omega arith) in grind (arith, nat_tests))
      (cases_lt j limit)
  least_at z j a b (beyond i h s q) =
      let f = from_least m.server_objects.places (id - limit + 1) i s (j - limit) (omega arith) (omega arith) in grind (arith, nat_tests)

pub above : {D : Type 0} (m : ObjectMap D) (id k : ℕ) → next_after m id ≡ Some k → id < k
above m id k e = above_at m id k (where_is m id k e)

pub live : {D : Type 0} (m : ObjectMap D) (id k : ℕ) → Sized m → next_after m id ≡ Some k → is_some (find_in m k) ≡ true
live m id k z e = live_at m id k z (where_is m id k e)

pub least : {D : Type 0} (m : ObjectMap D) (id k j : ℕ) → Sized m → next_after m id ≡ Some k → id < j → j < k → find_in m j ≡ None
least m id k j z e a b = least_at m id k z j a b (where_is m id k e)

module _ {D : Type 0} (m : ObjectMap D) (id j : ℕ) (a : id < j) where
  none_low : (o s : Option ℕ) → occupied_from m.client_objects.places id ≡ o → occupied_from m.server_objects.places 0 ≡ s → id < limit → or_else (option_map (λ x. x + 1) o) (option_map (λ x. x + limit) s) ≡ None → find_in m j ≡ None
  none_low (Some i) s eo es h e = absurd (never (i + 1) (sym e))
  none_low None (Some i) eo es h e = absurd (never (i + limit) (sym e))
  none_low None None eo es h e =
      ⊎_elim
      (λ l. let f = from_nowhere m.client_objects.places id eo (j - 1) (omega arith) in grind (arith, nat_tests))
      (λ l. let f = from_nowhere m.server_objects.places 0 es (j - limit) (omega arith) in grind (arith, nat_tests))
      (cases_lt j limit)

  none_high : (s : Option ℕ) → occupied_from m.server_objects.places (id - limit + 1) ≡ s → limit ≤ id → option_map (λ x. x + limit) s ≡ None → find_in m j ≡ None
  none_high (Some i) es h e = absurd (never (i + limit) (sym e))
  none_high None es h e = let f = from_nowhere m.server_objects.places (id - limit + 1) es (j - limit) (omega arith) in grind (arith, nat_tests)

pub last : {D : Type 0} (m : ObjectMap D) (id j : ℕ) → next_after m id ≡ None → id < j → find_in m j ≡ None
last m id j e a =
    ⊎_elim
    (λ h. none_low m id j a _ _ refl refl h (sym (cond-true _ _ _ (lt-ltb id limit h)) ∙ e))
    (λ h. none_high m id j a _ refl h (sym (cond-false _ _ _ (le-ltb id limit h)) ∙ e))
    (cases_lt id limit)
