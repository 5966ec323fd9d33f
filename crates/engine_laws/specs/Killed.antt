-- What a killed client still hears: that numbers may be used again, and nothing else.
use Rattle.std.specs.Prelude.{◌≡◌, ℕ, ◌<◌, ◌≤◌, false, ◌⊎◌, List, [], ◌∷◌, ◌++◌, length, Some}
use Rattle.map.specs.Map.{limit}
use Rattle.protocol.specs.Lawful.{Lawful}
use Rattle.message.specs.Events.{EventModel}
use Rattle.backend.specs.declared.ids.ClientId.{ClientId}
use Rattle.backend.specs.declared.client.Client.{Client}
use Rattle.backend.specs.Events.{delete_id}
use Rattle.backend.specs.World.{Terms, World, client_at, is_live}
use Rattle.backend.specs.Acts.{Act, entered, ended, took, refused, received, flushed, opened}
use Rattle.backend.specs.Perform.{Call, perform}
use Rattle.accounts.specs.Histories.{History, Leads}
use Rattle.accounts.specs.Accounts.{acts_of, Killed}
use Rattle.accounts.specs.Whole.{most}

-- the event is wl_display.delete_id, of a number of the client's half
abbrev pub IsDeleteId : EventModel → Type 0
IsDeleteId e = (id : ℕ) × (id < limit) × (e ≡ delete_id id)

-- every event of the list is delete_id
abbrev pub AllDeleteIds : List EventModel → Type 0
AllDeleteIds [] = Unit {0}
AllDeleteIds (e ∷ es) = IsDeleteId e × AllDeleteIds es

-- of what was done to a client, every event that was put to its line, taken or refused, is a delete_id
abbrev pub PutsOnlyDeleteIds : List Act → Type 0
PutsOnlyDeleteIds [] = Unit {0}
PutsOnlyDeleteIds (entered x ∷ as') = PutsOnlyDeleteIds as'
PutsOnlyDeleteIds (ended e ∷ as') = PutsOnlyDeleteIds as'
PutsOnlyDeleteIds (took e ∷ as') = IsDeleteId e × PutsOnlyDeleteIds as'
PutsOnlyDeleteIds (refused e ∷ as') = IsDeleteId e × PutsOnlyDeleteIds as'
PutsOnlyDeleteIds (received ∷ as') = PutsOnlyDeleteIds as'
PutsOnlyDeleteIds (flushed ∷ as') = PutsOnlyDeleteIds as'
PutsOnlyDeleteIds (opened ∷ as') = PutsOnlyDeleteIds as'

-- the events of a line after a call: those before it, or none of them where they were carried away, and then delete_id events alone
abbrev pub GainsDeleteIds : List EventModel → List EventModel → Type 0
GainsDeleteIds before after = (new : List EventModel) × AllDeleteIds new × ((after ≡ before ++ new) ⊎ (after ≡ new))

-- what a call does to a client, and to the line of its place
pub record HearsOnlyDeleteIds (t : Terms) (call : Call) (w : World) (c : ClientId) : Type 0 where
  pub deeds : PutsOnlyDeleteIds (acts_of c (perform t call w).run.deeds)
  pub line : GainsDeleteIds (w.lines c.place).events ((perform t call w).run.world.lines c.place).events

-- Whatever the call and the world: a client that is there, and killed before the call, is told of numbers that may be used again, and
-- of nothing else.
abbrev pub KilledHearOnlyDeleteId : Type 0
KilledHearOnlyDeleteId = (t : Terms) (call : Call) (w : World) (c : ClientId) → Killed w c → HearsOnlyDeleteIds t call w c

-- In every history of up to 4,294,967,295 calls: a client that is killed stays killed for as long as it is there.
abbrev pub KilledStayKilled : Type 0
KilledStayKilled =
    (t : Terms) → Lawful t.rows → (h : History) (w : World) → Leads t h w → length h ≤ most → (call : Call) (c : ClientId) → Killed w c → (k : Client)
    → client_at (perform t call w).run.world c ≡ Some k → is_live k.state ≡ false
