-- The roll of registries, the globals, and what is announced.
use Rattle.std.specs.Prelude.{ℕ, ◌+◌, ◌-◌, Bool, cond, List, [], ◌∷◌, ◌++◌, Some, None, Option, ◌==◌}
use Rattle.places.specs.Places.{at, lowest, places_new}
use Rattle.backend.specs.declared.ids.ClientId.{ClientId}
use Rattle.backend.specs.declared.ids.ObjectId.{ObjectId}
use Rattle.backend.specs.declared.ids.GlobalId.{GlobalId}
use Rattle.backend.specs.declared.client.Client.{Client}
use Rattle.backend.specs.declared.registry.Global.{Global}
use Rattle.backend.specs.Ids.{same_object}
use Rattle.backend.specs.Texts.{name_in}
use Rattle.backend.specs.Events.{global_event, global_remove}
use Rattle.backend.specs.World.{Terms, World, client_at, with_roll}
use Rattle.backend.specs.Acts.{Seat, Run, seat, resumed, tell}

-- The roll.

-- the place of one more, or none where the roll is full
abbrev pub roll_end : List (Option ObjectId) → Option ℕ
roll_end roll = lowest 0 roll

-- one more at the end
abbrev pub enrolled : ObjectId → List (Option ObjectId) → List (Option ObjectId)
enrolled x roll = places_new (roll_end roll) roll x

-- without one, and those behind it move up
abbrev pub without : ObjectId → List (Option ObjectId) → List (Option ObjectId)
without x [] = []
without x (None ∷ roll) = None ∷ without x roll
without x (Some y ∷ roll) = cond (same_object x y) (roll ++ None ∷ []) (Some y ∷ without x roll)

-- the world without a registry on its roll
abbrev pub off_roll : ObjectId → World → World
off_roll x w = with_roll (without x w.engine.registry.roll) w

-- Globals.

-- the handle of the global of a name
abbrev pub global_id : ℕ → Global → GlobalId
global_id name g = record { name = name; serial = g.serial }

-- what stands under a name: name 1 is the first place
abbrev pub global_named : List (Option Global) → ℕ → Option Global
global_named globals name = cond (name == 0) None (at globals (name - 1))

-- the global, if its serial is the handle's
abbrev pub holding : GlobalId → Option Global → Option Global
holding i None = None
holding i (Some g) = cond (g.serial == i.serial) (Some g) None

-- the global that a handle names
abbrev pub global_at : List (Option Global) → GlobalId → Option Global
global_at globals i = holding i (global_named globals i.name)

-- Announcing.

-- the policy shows a global to a client
abbrev pub visible : Terms → ClientId → Client → ℕ → Global → Bool
visible t c k name g = t.shows c k.«data» (global_id name g) g.handler

-- a registry is told of a global that the policy shows
abbrev pub announce : Terms → ObjectId → ℕ → Global → Seat → Seat
announce t registry name g s =
    cond (visible t registry.client s.client name g) (tell (global_event registry.id name (name_in t.rows g.row) g.version) s) s

-- a new registry is told of every enabled global, by rising name; the first of the list has this name
abbrev pub announce_all : Terms → ObjectId → ℕ → List (Option Global) → Seat → Seat
announce_all t registry name [] s = s
announce_all t registry name (None ∷ gs) s = announce_all t registry (name + 1) gs s
announce_all t registry name (Some g ∷ gs) s = announce_all t registry (name + 1) gs (cond g.disabled s (announce t registry name g s))

-- a registry is told that a global is gone
abbrev pub retract : ℕ → ObjectId → Seat → Seat
retract name registry s = tell (global_remove registry.id name) s

-- something is done to the client of a registry, if it is there
abbrev pub visit : ClientId → (Seat → Seat) → Option Client → Run → Run
visit c f None r = r
visit c f (Some k) r = resumed c (f (seat c k r)) r

-- every registry of the roll is told something, from the first to the last
abbrev pub along_roll : (ObjectId → Seat → Seat) → List (Option ObjectId) → Run → Run
along_roll f [] r = r
along_roll f (None ∷ roll) r = along_roll f roll r
along_roll f (Some x ∷ roll) r = along_roll f roll (visit x.client (f x) (client_at r.world x.client) r)
