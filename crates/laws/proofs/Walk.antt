-- The whole walk: it ends, and it finds exactly the live ids, in rising order.
use Rattle.std.proofs.Common.{◌≡◌, ℕ, zero, suc, ◌+◌, ◌-◌, ◌<◌, ◌≤◌, true, List, [], ◌∷◌, is_some, Some, None, Option, sym, refl, ap, ◌∙◌, inl, inr, ⊎_elim, arith}
use Rattle.std.proofs.lemmas.Bool.{cases_lt, cases_eq, false≢true}
use Rattle.std.proofs.lemmas.Bool.Decides.{nat_tests}
use Rattle.places.specs.Places.{at}
use Rattle.places.proofs.Search.{occupied_within}
use Rattle.map.specs.declared.ObjectMap.{ObjectMap}
use Rattle.map.specs.Map.{limit, server_places, find_in, next_after}
use Rattle.laws.specs.Sizes.{Sized}
use Rattle.laws.specs.NextLaws.{Walk, ends, goes, Rising, Among, Lists}
use Rattle.laws.proofs.Next.{above, live, least, last}

module _ {D : Type 0} (m : ObjectMap D) (z : Sized m) where
  -- what names nothing is not live
  dead : (k : ℕ) → find_in m k ≡ None → is_some (find_in m k) ≡ true → ⊥
  dead k e l = false≢true (sym (ap is_some e) ∙ l)

  -- a live id is not null, and lies in one of the halves
  live_within : (k : ℕ) → is_some (find_in m k) ≡ true → (0 < k) × (k < limit + server_places)
  live_within k l =
      ⊎_elim
      (λ h. (positive, omega arith))
      (λ h.
      let s : is_some (at m.server_objects.places (k - limit)) ≡ true = grind (arith, nat_tests) in
      let w = occupied_within m.server_objects.places (k - limit) s in
      (positive, omega (arith, z.1)))
      (cases_lt k limit)
    where
      positive : 0 < k
      positive = grind (arith, nat_tests)

  -- one step, and the walk from there
  step : (id : ℕ) (o : Option ℕ) → next_after m id ≡ o → ((k : ℕ) → next_after m id ≡ Some k → (ks : List ℕ) × Walk m k ks) → (ks : List ℕ) × Walk m id ks
  step id None e f = ([], ends e)
  step id (Some k) e f = let w = f k e in (k ∷ w.0, goes e w.1)

  -- no step leads past the last place of the server's half
  past : (id k : ℕ) → limit + server_places ≤ id → next_after m id ≡ Some k → ⊥
  past id k h e = omega (arith, above m id k e, (live_within k (live m id k z e)).1)

  -- the walk from an id, by as many steps as there are ids above it at most
  walks : (steps id : ℕ) → limit + server_places ≤ id + steps → (ks : List ℕ) × Walk m id ks
  walks zero id h = step id _ refl (λ k e. absurd (past id k (omega arith) e))
  walks (suc steps) id h = step id _ refl (λ k e. walks steps k (omega (arith, above m id k e)))

  pub walk_ends : (ks : List ℕ) × Walk m 0 ks
  walk_ends = walks (limit + server_places) 0 (omega arith)

  rising : (id : ℕ) (ks : List ℕ) → Walk m id ks → Rising id ks
  rising id [] (ends e) = tt
  rising id (k ∷ ks) (goes e w) = (above m id k e, rising k ks w)

  all_live : (id : ℕ) (ks : List ℕ) → Walk m id ks → (j : ℕ) → Among j ks → is_some (find_in m j) ≡ true
  all_live id [] (ends e) j a = absurd a
  all_live id (k ∷ ks) (goes e w) j (inl q) = ap (λ (x : ℕ). is_some (find_in m x)) q ∙ live m id k z e
  all_live id (k ∷ ks) (goes e w) j (inr a) = all_live k ks w j a

  each_live : (id : ℕ) (ks : List ℕ) → Walk m id ks → (j : ℕ) → id < j → is_some (find_in m j) ≡ true → Among j ks
  each_live id [] (ends e) j h l = absurd (dead j (last m id j e h) l)
  each_live id (k ∷ ks) (goes e w) j h l =
      ⊎_elim
      (λ b. absurd (dead j (least m id k j z e h b) l))
      (λ b. ⊎_elim (λ q. inl q) (λ n. inr (each_live k ks w j (grind arith) l)) (cases_eq j k))
      (cases_lt j k)

  pub walk_lists : (ks : List ℕ) → Walk m 0 ks → Lists m ks
  walk_lists ks w =
      record { rising = rising 0 ks w; all_live = all_live 0 ks w; each_live = λ k l. each_live 0 ks w k (live_within k l).0 l }
