-- Looking for refusals: each check gives what was found, or the refusal, and the first refusal is the answer.
use Rattle.std.specs.Prelude.{ℕ, Bool, true, false, List, Some, None, Ok, Err, Option, Result}
use Rattle.map.specs.declared.fault.InvalidId.{InvalidId}
use Rattle.map.specs.declared.Object.{Object}
use Rattle.map.specs.declared.ObjectData.{ObjectData}
use Rattle.map.specs.Named.{lookup_in}
use Rattle.protocol.specs.declared.refusal.Refusal.{Refusal}
use Rattle.protocol.specs.declared.refusal.Refusal.TheVariants.{NoClient, DeadObject, NoRow, NoGlobal}
use Rattle.protocol.specs.Meaning.{heading_in}
use Rattle.protocol.specs.Model.{RowModel, Title}
use Rattle.backend.specs.declared.ids.ClientId.{ClientId}
use Rattle.backend.specs.declared.ids.ObjectId.{ObjectId}
use Rattle.backend.specs.declared.ids.GlobalId.{GlobalId}
use Rattle.backend.specs.declared.client.Client.{Client}
use Rattle.backend.specs.declared.registry.Global.{Global}
use Rattle.backend.specs.Ids.{local_of}
use Rattle.backend.specs.World.{World, client_at}
use Rattle.backend.specs.Registries.{global_at}

-- one check after another
abbrev pub passing : {A B : Type 0} → Result A Refusal → (A → Result B Refusal) → Result B Refusal
passing (Ok a) f = f a
passing (Err e) f = Err e

-- refused where the test fails
abbrev pub unless : Bool → Refusal → Result (Unit {0}) Refusal
unless true e = Ok tt
unless false e = Err e

-- refused where there is nothing
abbrev pub present : {A : Type 0} → Option A → Refusal → Result A Refusal
present None e = Err e
present (Some a) e = Ok a

-- the client of a handle
abbrev pub the_client : World → ClientId → Result Client Refusal
the_client w c = present (client_at w c) NoClient

-- a name that names nothing is of a dead object
abbrev pub alive : Result (Object ObjectData) InvalidId → Result (Object ObjectData) Refusal
alive (Ok o) = Ok o
alive (Err e) = Err DeadObject

-- the object that a handle names, of its client
abbrev pub the_object : Client → ObjectId → Result (Object ObjectData) Refusal
the_object k x = alive (lookup_in k.map (local_of x))

-- a client, and one of its objects
pub record Owned : Type 0 where
  pub client : Client
  pub object : Object ObjectData

-- both, by the object's handle
abbrev pub the_owned : World → ObjectId → Result Owned Refusal
the_owned w x = passing (the_client w x.client) (λ k. passing (the_object k x) (λ o. Ok (record { client = k; object = o })))

-- the name and version of a row
abbrev pub the_row : List RowModel → ℕ → Result Title Refusal
the_row rows row = present (heading_in rows row) NoRow

-- the global of a handle
abbrev pub the_global : World → GlobalId → Result Global Refusal
the_global w i = present (global_at w.engine.registry.globals.places i) NoGlobal
