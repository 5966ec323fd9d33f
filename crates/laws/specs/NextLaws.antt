-- The walk by `next`: the live ids in rising order, each once, and none is passed over.
use Rattle.std.specs.Prelude.{◌≡◌, ℕ, ◌<◌, true, ◌⊎◌, List, [], ◌∷◌, is_some, Some, None}
use Rattle.map.specs.declared.ObjectMap.{ObjectMap}
use Rattle.map.specs.Map.{find_in, next_after}
use Rattle.laws.specs.Sizes.{Sized}

-- the ids that `next` answers, begun at an id and asked again at each answer, until it answers none
pub data Walk {D : Type 0} (m : ObjectMap D) : ℕ → List ℕ → Type 0 where
  ends : {id : ℕ} → next_after m id ≡ None → Walk m id []
  goes : {id k : ℕ} {ks : List ℕ} → next_after m id ≡ Some k → Walk m k ks → Walk m id (k ∷ ks)

-- each id of the list is above the one before it, and the first above a given id
abbrev pub Rising : ℕ → List ℕ → Type 0
Rising id [] = Unit {0}
Rising id (k ∷ ks) = (id < k) × Rising k ks

-- the id is one of the list
abbrev pub Among : ℕ → List ℕ → Type 0
Among k [] = ⊥
Among k (x ∷ xs) = (k ≡ x) ⊎ Among k xs

-- the list has the live ids, and no other, in rising order
pub record Lists {D : Type 0} (m : ObjectMap D) (ks : List ℕ) : Type 0 where
  pub rising : Rising 0 ks
  pub all_live : (k : ℕ) → Among k ks → is_some (find_in m k) ≡ true
  pub each_live : (k : ℕ) → is_some (find_in m k) ≡ true → Among k ks

pub record NextLaws (D : Type 0) : Type 0 where
  -- the next id is above the given one
  pub above : (m : ObjectMap D) (id k : ℕ) → next_after m id ≡ Some k → id < k
  -- it is live
  pub live : (m : ObjectMap D) (id k : ℕ) → Sized m → next_after m id ≡ Some k → is_some (find_in m k) ≡ true
  -- no id between the given one and it is live
  pub least : (m : ObjectMap D) (id k j : ℕ) → Sized m → next_after m id ≡ Some k → id < j → j < k → find_in m j ≡ None
  -- where there is no next id, no id above the given one is live
  pub last : (m : ObjectMap D) (id j : ℕ) → next_after m id ≡ None → id < j → find_in m j ≡ None
  -- the walk begun at 0 comes to an end
  pub walk_ends : (m : ObjectMap D) → Sized m → (ks : List ℕ) × Walk m 0 ks
  -- the walk begun at 0 finds exactly the live ids, each once, in rising order
  pub walk_lists : (m : ObjectMap D) (ks : List ℕ) → Sized m → Walk m 0 ks → Lists m ks
