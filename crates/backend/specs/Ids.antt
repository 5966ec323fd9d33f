-- Handles: when two are the same, and what names an object within its client.
use Rattle.std.specs.Prelude.{Bool, ◌&&◌, ◌==◌}
use Rattle.map.specs.declared.LocalId.{LocalId}
use Rattle.backend.specs.declared.ids.ClientId.{ClientId}
use Rattle.backend.specs.declared.ids.ObjectId.{ObjectId}
use Rattle.backend.specs.declared.ids.GlobalId.{GlobalId}

-- what names an object within its client
abbrev pub local_of : ObjectId → LocalId
local_of x = record { id = x.id; serial = x.serial; row = x.row }

-- all parts of a client's handle agree
abbrev pub same_client : ClientId → ClientId → Bool
same_client a b = a.place == b.place && a.serial == b.serial

-- all parts of an object's handle agree
abbrev pub same_object : ObjectId → ObjectId → Bool
same_object a b = same_client a.client b.client && (a.id == b.id && (a.serial == b.serial && a.row == b.row))

-- all parts of a global's handle agree
abbrev pub same_global : GlobalId → GlobalId → Bool
same_global a b = a.name == b.name && a.serial == b.serial

-- what the engine writes for a null object: every part but the client is 0
abbrev pub null_of : ClientId → ObjectId
null_of c = record { client = c; id = 0; serial = 0; row = 0 }
