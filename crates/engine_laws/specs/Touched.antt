-- Which lines a call touches.
use Rattle.std.specs.Prelude.{◌≡◌, ℕ, ◌<◌, true, ◌⊎◌, List, [], ◌∷◌, Some, None, Ok, Option}
use Rattle.map.specs.Map.{limit}
use Rattle.backend.specs.declared.ids.ClientId.{ClientId}
use Rattle.backend.specs.declared.ids.ObjectId.{ObjectId}
use Rattle.backend.specs.declared.ids.GlobalId.{GlobalId}
use Rattle.backend.specs.declared.client.Client.{Client}
use Rattle.backend.specs.declared.ticket.Origin.{Origin}
use Rattle.backend.specs.declared.answers.DisableAnswer.TheVariants.{Disabled}
use Rattle.backend.specs.declared.answers.TidyAnswer.TheVariants.{Vacated}
use Rattle.backend.specs.World.{Terms, World, client_at, is_live}
use Rattle.backend.specs.Perform.{Call, admit, step, settle_plain, settle_making, create, destroy, send, look, set, find, next, post, kill, add, disable, remove, flush, tidy, admitted, added, disabled, tidied, perform}

-- the registry is on the roll
abbrev pub OnRoll : ObjectId → List (Option ObjectId) → Type 0
OnRoll x [] = ⊥
OnRoll x (None ∷ roll) = OnRoll x roll
OnRoll x (Some y ∷ roll) = (x ≡ y) ⊎ OnRoll x roll

-- a registry on the roll, whose client is at this place and is not killed
pub record Listener (w : World) (p : ℕ) : Type 0 where
  pub registry : ObjectId
  pub client : Client
  pub on_roll : OnRoll registry w.engine.registry.roll
  pub there : client_at w registry.client ≡ Some client
  pub not_killed : is_live client.state ≡ true
  pub here : p ≡ registry.client.place

-- the policy shows the global to the listener's client
abbrev pub Shown : {p : ℕ} → Terms → (w : World) → Listener w p → GlobalId → ℕ → Type 0
Shown t w l i handler = t.shows l.registry.client l.client.«data» i handler ≡ true

-- the client of a handle is there and not killed, at this place
abbrev pub Reached : World → ClientId → ℕ → Type 0
Reached w c p = (k : Client) × (client_at w c ≡ Some k) × (is_live k.state ≡ true) × (p ≡ c.place)

-- delete_id is sent for an object of the client's half, to its client at this place
abbrev pub Deleted : ObjectId → ℕ → Type 0
Deleted x p = (x.id < limit) × (p ≡ x.client.place)

-- a destructor ends its sender
abbrev pub Ends : Origin → ℕ → Type 0
Ends o p = (o.destructor ≡ true) × Deleted o.sender p

-- The line of the place may be touched. An admission opens the line of the client that it admits. A step, a send and a post touch the
-- line of their client, and none where it is killed. A destroy, and a settle of a destructor, send delete_id, also to a killed client.
-- A global that is added is told to the registries that may see it, and one that is disabled or removed, if it was not disabled
-- before, to all. A flush carries away the events of its client, and a tidy those of the client whose place it vacates. The other
-- calls touch no line.
abbrev pub Touches : Terms → Call → World → ℕ → Type 0
Touches t (admit d) w p = (c : ClientId) × ((perform t (admit d) w).answer ≡ admitted (Ok c)) × (p ≡ c.place)
Touches t (step c b) w p = Reached w c p
Touches t (settle_plain x) w p = Ends x.request p
Touches t (settle_making x d) w p = Ends x.request.origin p
Touches t (create c row version d) w p = ⊥
Touches t (destroy x) w p = Deleted x p
Touches t (send x opcode as') w p = Reached w x.client p
Touches t (look x) w p = ⊥
Touches t (set x d) w p = ⊥
Touches t (find c id) w p = ⊥
Touches t (next c id) w p = ⊥
Touches t (post x code text) w p = Reached w x.client p
Touches t (kill c r) w p = ⊥
Touches t (add row version handler) w p =
    (i : GlobalId) × ((perform t (add row version handler) w).answer ≡ added (Ok i)) × ((l : Listener w p) × Shown t w l i handler)
Touches t (disable i) w p = ((perform t (disable i) w).answer ≡ disabled (Ok Disabled)) × Listener w p
Touches t (remove i) w p = ((perform t (disable i) w).answer ≡ disabled (Ok Disabled)) × Listener w p
Touches t (flush c) w p = p ≡ c.place
Touches t tidy w p = (c : ClientId) × ((perform t tidy w).answer ≡ tidied (Vacated c)) × (p ≡ c.place)

-- Every call leaves the line of every place that its rules do not name: the requests that wait there, the events, the mark and the
-- allowance.
abbrev pub CallsTouchTheirLines : Type 0
CallsTouchTheirLines = (t : Terms) (c : Call) (w : World) (p : ℕ) → (Touches t c w p → ⊥) → (perform t c w).run.world.lines p ≡ w.lines p
