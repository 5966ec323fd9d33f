-- What a call is made on: the engine's record, and a line for each place.
use Rattle.std.specs.Prelude.{ℕ, ◌+◌, ◌%◌, ◌^◌, Bool, true, false, cond, List, replicate, Some, None, Option, ◌==◌, slice_set}
use Rattle.places.specs.declared.table.Table.{Table}
use Rattle.places.specs.Places.{at}
use Rattle.places.specs.Tables.{empty_table}
use Rattle.map.specs.declared.ObjectData.{ObjectData}
use Rattle.map.specs.declared.ObjectMap.{ObjectMap}
use Rattle.protocol.specs.Model.{RowModel}
use Rattle.queue.specs.Ring.{at_place}
use Rattle.wire.specs.Line.{Line}
use Rattle.backend.specs.declared.ids.ClientId.{ClientId}
use Rattle.backend.specs.declared.ids.ObjectId.{ObjectId}
use Rattle.backend.specs.declared.ids.GlobalId.{GlobalId}
use Rattle.backend.specs.declared.client.Client.{Client}
use Rattle.backend.specs.declared.client.ClientState.{ClientState}
use Rattle.backend.specs.declared.client.ClientState.TheVariants.{Live, Untold, Told}
use Rattle.backend.specs.declared.client.ClientStore.{ClientStore}
use Rattle.backend.specs.declared.registry.Global.{Global}
use Rattle.backend.specs.declared.registry.Registry.{Registry}
use Rattle.backend.specs.declared.state.Engine.{Engine}
use Rattle.backend.specs.declared.ticket.Outstanding.{Outstanding}
use Rattle.backend.specs.declared.ticket.Outstanding.TheVariants.{Nothing}

-- what a session is lent: the rows of the catalogue, and what the policy shows
pub record Terms : Type 0 where
  pub rows : List RowModel
  pub shows : ClientId → ℕ → GlobalId → ℕ → Bool

-- the engine, and a line for each place
pub record World : Type 0 where
  pub engine : Engine
  pub lines : ℕ → Line

-- how many clients, globals and registries there can be
abbrev pub client_places : ℕ
client_places = 8

-- how many globals there can be
abbrev pub global_places : ℕ
global_places = 32

-- how many registries there can be
abbrev pub roll_places : ℕ
roll_places = 32

-- an engine to which nothing was done yet
abbrev pub new_engine : Engine
new_engine = record {
  store = record { clients = empty_table client_places; last_serial = 0 };
  registry = record { globals = empty_table global_places; last_serial = 0; roll = replicate roll_places None };
  outstanding = Nothing;
}

-- serials have 32 bits and wrap
abbrev pub wrapped : ℕ → ℕ
wrapped n = n % 2 ^ 32

-- the serial after this one
abbrev pub following : ℕ → ℕ
following n = wrapped (n + 1)

-- Clients.

-- the client is not killed
abbrev pub is_live : ClientState → Bool
is_live Live = true
is_live (Untold r) = false
is_live Told = false

-- the client of a place, if its serial is the handle's
abbrev pub named : ClientId → Option Client → Option Client
named c None = None
named c (Some k) = cond (k.serial == c.serial) (Some k) None

-- the client that a handle names: place and serial agree
abbrev pub client_at : World → ClientId → Option Client
client_at w c = named c (at w.engine.store.clients.places c.place)

-- the client in another state
abbrev pub with_state : ClientState → Client → Client
with_state s k = record { serial = k.serial; «data» = k.«data»; state = s; last_serial = k.last_serial; map = k.map }

-- the client with another map
abbrev pub with_map : ObjectMap ObjectData → Client → Client
with_map m k = record { serial = k.serial; «data» = k.«data»; state = k.state; last_serial = k.last_serial; map = m }

-- the serial that the client's next object has
abbrev pub next_serial : Client → ℕ
next_serial k = following k.last_serial

-- the client after a serial was taken
abbrev pub drawn : Client → Client
drawn k = record { serial = k.serial; «data» = k.«data»; state = k.state; last_serial = next_serial k; map = k.map }

-- Parts of a world.

-- the world with another engine
abbrev pub with_engine : Engine → World → World
with_engine e w = record { engine = e; lines = w.lines }

-- the world with other clients
abbrev pub with_store : ClientStore → World → World
with_store s w = with_engine (record { store = s; registry = w.engine.registry; outstanding = w.engine.outstanding }) w

-- the world with another registry
abbrev pub with_registry : Registry → World → World
with_registry r w = with_engine (record { store = w.engine.store; registry = r; outstanding = w.engine.outstanding }) w

-- the world with another ticket outstanding
abbrev pub with_outstanding : Outstanding → World → World
with_outstanding o w = with_engine (record { store = w.engine.store; registry = w.engine.registry; outstanding = o }) w

-- a table with another content of a place
abbrev pub with_content : {T : Type 0} {n : ℕ} → ℕ → Option T → Table T n → Table T n
with_content p o t = record { places = slice_set t.places p o; len = t.len }

-- what stands at a place of the clients
abbrev pub with_place : ℕ → Option Client → World → World
with_place p k w = with_store (record { clients = with_content p k w.engine.store.clients; last_serial = w.engine.store.last_serial }) w

-- the world with another roll
abbrev pub with_roll : List (Option ObjectId) → World → World
with_roll xs w = with_registry (record { globals = w.engine.registry.globals; last_serial = w.engine.registry.last_serial; roll = xs }) w

-- what stands at a place of the globals
abbrev pub with_global : ℕ → Option Global → World → World
with_global p g w = with_registry (record { globals = with_content p g w.engine.registry.globals; last_serial = w.engine.registry.last_serial; roll = w.engine.registry.roll }) w

-- the line of a place, changed
abbrev pub on_line : ℕ → (Line → Line) → World → World
on_line p f w = record { engine = w.engine; lines = at_place p f w.lines }
