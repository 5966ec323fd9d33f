-- That the accounts say what they should: histories that must not agree do not.
use Rattle.std.specs.Prelude.{◌≡◌, ℕ, ◌<◌, List, ◌∷◌}
use Rattle.map.specs.Map.{limit}
use Rattle.backend.specs.declared.ids.ClientId.{ClientId}
use Rattle.backend.specs.declared.ids.ObjectId.{ObjectId}
use Rattle.backend.specs.World.{Terms, World}
use Rattle.accounts.specs.Histories.{History, deeds}
use Rattle.accounts.specs.Shown.{entries, ends}
use Rattle.accounts.specs.Accounts.{Has, Looks, of, acts_of, Unrefused, Side, delete, entry, sides, Agree, Found}

-- what must not agree does not
pub record Telling : Type 0 where
  -- a history in which two entries of a client share a handle does not agree
  pub one_handle_twice : (t : Terms) (h : History) (w : World) (c : ClientId) (x : ObjectId) (xs : List ObjectId) → of c (entries h) ≡ x ∷ xs → Has x xs → Agree t h w c → ⊥
  -- nor one in which an end was told twice
  pub one_end_twice : (t : Terms) (h : History) (w : World) (c : ClientId) (x : ObjectId) (xs : List ObjectId) → of c (ends h) ≡ x ∷ xs → Has x xs → Agree t h w c → ⊥
  -- nor one in which a look succeeds with a handle whose end was told
  pub told_and_looks : (t : Terms) (h : History) (w : World) (x : ObjectId) → Has x (ends h) → Looks t w x → Found t h w → ⊥
  -- nor one in which a look succeeds with a handle that was never entered
  pub looks_unentered : (t : Terms) (h : History) (w : World) (x : ObjectId) → (Has x (entries h) → ⊥) → Looks t w x → Found t h w → ⊥
  -- nor one with two delete_id events in a row for a number
  pub deleted_twice : (t : Terms) (h : History) (w : World) (c : ClientId) (i : ℕ) (s : List Side) → i < limit → Unrefused (acts_of c (deeds h)) → sides i (acts_of c (deeds h)) ≡ delete ∷ delete ∷ s → Agree t h w c → ⊥
  -- nor one with two entries in a row for a number
  pub entered_twice : (t : Terms) (h : History) (w : World) (c : ClientId) (i : ℕ) (s : List Side) → i < limit → Unrefused (acts_of c (deeds h)) → sides i (acts_of c (deeds h)) ≡ entry ∷ entry ∷ s → Agree t h w c → ⊥
