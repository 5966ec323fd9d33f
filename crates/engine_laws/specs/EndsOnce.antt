-- An end is told exactly once, and its handle is dead from then on.
use Rattle.std.specs.Prelude.{◌≡◌, ◌≤◌, ◌⊎◌, length, Err}
use Rattle.protocol.specs.declared.refusal.Refusal.TheVariants.{NoClient, DeadObject}
use Rattle.protocol.specs.Lawful.{Lawful}
use Rattle.backend.specs.declared.ids.ObjectId.{ObjectId}
use Rattle.backend.specs.World.{Terms, World}
use Rattle.backend.specs.Perform.{look, looked, perform}
use Rattle.accounts.specs.Histories.{History, Leads}
use Rattle.accounts.specs.Shown.{entries, ends}
use Rattle.accounts.specs.Accounts.{Has, Apart, Looks}
use Rattle.accounts.specs.Whole.{most}

-- a look with this handle is refused: the object is dead, or its client is gone
abbrev pub Dead : Terms → World → ObjectId → Type 0
Dead t w x = ((perform t (look x) w).answer ≡ looked (Err DeadObject)) ⊎ ((perform t (look x) w).answer ≡ looked (Err NoClient))

-- the ends that were told in a history, of all its clients together, and the world that it leads to
pub record OncePerHandle (t : Terms) (h : History) (w : World) : Type 0 where
  -- no two ends share a handle
  pub once : Apart (ends h)
  -- only what was entered has an end
  pub entered : (x : ObjectId) → Has x (ends h) → Has x (entries h)
  -- what was entered lives, or its end was told
  pub lives_or_ended : (x : ObjectId) → Has x (entries h) → Looks t w x ⊎ Has x (ends h)
  -- and once its end was told, its handle is dead
  pub dead : (x : ObjectId) → Has x (ends h) → Dead t w x

-- After any list of up to 4,294,967,295 calls, each end was told exactly once, and its handle is dead.
abbrev pub EndsAreToldOnce : Type 0
EndsAreToldOnce = (t : Terms) → Lawful t.rows → (h : History) (w : World) → Leads t h w → length h ≤ most → OncePerHandle t h w
