-- What registries hear of globals.
use Rattle.std.specs.Prelude.{◌≡◌, ℕ, ◌+◌, ◌<◌, ◌≤◌, true, false, cond, not, ◌&&◌, List, [], ◌∷◌, ◌++◌, length, take, Some, None, Ok, Option, nat_le}
use Rattle.protocol.specs.Lawful.{Lawful}
use Rattle.message.specs.Events.{EventModel}
use Rattle.backend.specs.declared.ids.ClientId.{ClientId}
use Rattle.backend.specs.declared.ids.ObjectId.{ObjectId}
use Rattle.backend.specs.declared.ids.GlobalId.{GlobalId}
use Rattle.backend.specs.declared.client.Client.{Client}
use Rattle.backend.specs.declared.registry.Global.{Global}
use Rattle.backend.specs.declared.answers.StepAnswer.TheVariants.{Registered}
use Rattle.backend.specs.Ids.{same_client}
use Rattle.backend.specs.Events.{global_event, global_remove}
use Rattle.backend.specs.Registries.{global_named, global_at, visible}
use Rattle.backend.specs.Requests.{Buffers}
use Rattle.backend.specs.Texts.{name_in}
use Rattle.backend.specs.World.{Terms, World, client_at, is_live}
use Rattle.backend.specs.Perform.{step, stepped, add, added, disable, remove, perform}

-- the event that tells a registry of a global of this name
abbrev pub announcement : Terms → ObjectId → ℕ → Global → EventModel
announcement t registry name g = global_event registry.id name (name_in t.rows g.row) g.version

-- The announcements to a registry of the client k: of each global that is there, enabled, and shown by the policy, by rising name. The
-- first of the list has this name.
abbrev pub announcements : Terms → ObjectId → Client → ℕ → List (Option Global) → List EventModel
announcements t registry k name [] = []
announcements t registry k name (None ∷ globals) = announcements t registry k (name + 1) globals
announcements t registry k name (Some g ∷ globals) =
    cond (not g.disabled && visible t registry.client k name g) (announcement t registry name g ∷ announcements t registry k (name + 1) globals)
    (announcements t registry k (name + 1) globals)

-- the global that stands under a name, where it is enabled and the policy shows it to a registry of the client k
abbrev pub shown_of : Terms → ObjectId → Client → ℕ → Option Global → Option Global
shown_of t registry k name None = None
shown_of t registry k name (Some g) = cond (not g.disabled && visible t registry.client k name g) (Some g) None

-- From a name on, the events announce each global that is shown, once, by rising name, and nothing else.
pub data Announces (t : Terms) (registry : ObjectId) (k : Client) (globals : List (Option Global)) : ℕ → List EventModel → Type 0 where
  no_more : {start : ℕ} → ((name : ℕ) → start ≤ name → shown_of t registry k name (global_named globals name) ≡ None) → Announces t registry k globals start []
  goes_on : {start : ℕ} {events : List EventModel} (name : ℕ) (g : Global) → start ≤ name
      → ((j : ℕ) → start ≤ j → j < name → shown_of t registry k j (global_named globals j) ≡ None)
      → shown_of t registry k name (global_named globals name) ≡ Some g → Announces t registry k globals (name + 1) events
      → Announces t registry k globals start (announcement t registry name g ∷ events)

-- The announcements of a table of globals are of exactly those that are shown, by rising name.
abbrev pub AnnouncementsGoByName : Type 0
AnnouncementsGoByName =
    (t : Terms) (registry : ObjectId) (k : Client) (globals : List (Option Global)) → Announces t registry k globals 1 (announcements t registry k 1 globals)

-- A list of events is told to the client c: its line takes as many of them as it has allowance for, in order, and nothing else, and the
-- client stays live exactly where that is all of them.
pub record Tells (c : ClientId) (before : World) (events : List EventModel) (after : World) : Type 0 where
  pub line : (after.lines c.place).events ≡ (before.lines c.place).events ++ take (before.lines c.place).allowance events
  pub live : (q : Client) → client_at after c ≡ Some q → is_live q.state ≡ nat_le (length events) (before.lines c.place).allowance

-- A step that answers a new registry tells its client of the globals that are enabled and shown to it, each once, by rising name.
abbrev pub NewRegistryHearsGlobals : Type 0
NewRegistryHearsGlobals =
    (t : Terms) → Lawful t.rows → (c : ClientId) (b : Buffers) (w : World) (x : ObjectId) → (perform t (step c b) w).answer ≡ stepped (Ok (Registered x))
    → (k : Client) → client_at w c ≡ Some k
    → (x.client ≡ c) × Tells c w (announcements t x k 1 w.engine.registry.globals.places) (perform t (step c b) w).run.world

-- one event to each registry of the client that is on the roll, in the roll's order
abbrev pub to_registries : ClientId → (ObjectId → EventModel) → List (Option ObjectId) → List EventModel
to_registries c event [] = []
to_registries c event (None ∷ roll) = to_registries c event roll
to_registries c event (Some x ∷ roll) = cond (same_client c x.client) (event x ∷ to_registries c event roll) (to_registries c event roll)

-- what a client hears of a global that was added as i: where it is live and the policy shows it, wl_registry.global on each of its
-- registries, and else nothing
pub record HearsOfNew (t : Terms) (i : GlobalId) (row version handler : ℕ) (c : ClientId) (k : Client) (before after : World) : Type 0 where
  pub live : is_live k.state ≡ true
      → Tells c before (cond (t.shows c k.«data» i handler) (to_registries c (λ x. global_event x.id i.name (name_in t.rows row) version) before.engine.registry.roll) []) after
  pub killed : is_live k.state ≡ false → after.lines c.place ≡ before.lines c.place

-- Every client that is there hears of a global that is added exactly on its registries, and only where the policy shows it.
abbrev pub NewGlobalIsAnnounced : Type 0
NewGlobalIsAnnounced =
    (t : Terms) → Lawful t.rows → (row version handler : ℕ) (w : World) (i : GlobalId) → (perform t (add row version handler) w).answer ≡ added (Ok i)
    → (c : ClientId) (k : Client) → client_at w c ≡ Some k → HearsOfNew t i row version handler c k w (perform t (add row version handler) w).run.world

-- what a client hears of a global that goes: where it is live, and the global was enabled, wl_registry.global_remove on each of its
-- registries, whether or not the policy ever showed it, and else nothing
pub record HearsOfGone (i : GlobalId) (g : Global) (c : ClientId) (k : Client) (before after : World) : Type 0 where
  pub live : g.disabled ≡ false → is_live k.state ≡ true → Tells c before (to_registries c (λ x. global_remove x.id i.name) before.engine.registry.roll) after
  pub killed : is_live k.state ≡ false → after.lines c.place ≡ before.lines c.place
  pub again : g.disabled ≡ true → after.lines c.place ≡ before.lines c.place

-- Every client that is there hears exactly on its registries that a global is gone, once: when it is disabled, or else when it is
-- removed.
pub record GoneGlobalIsRetracted : Type 0 where
  pub disables : (t : Terms) (w : World) (i : GlobalId) (g : Global) → global_at w.engine.registry.globals.places i ≡ Some g → (c : ClientId) (k : Client) → client_at w c ≡ Some k
      → HearsOfGone i g c k w (perform t (disable i) w).run.world
  pub removes : (t : Terms) (w : World) (i : GlobalId) (g : Global) → global_at w.engine.registry.globals.places i ≡ Some g → (c : ClientId) (k : Client) → client_at w c ≡ Some k
      → HearsOfGone i g c k w (perform t (remove i) w).run.world
