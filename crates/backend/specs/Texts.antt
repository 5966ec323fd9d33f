-- The text of each error that a client is told. Numbers are in decimal; names are those of the catalogue.
use Rattle.std.specs.Prelude.{ℕ, cond, ◌&&◌, List, [], ◌++◌, map, take, Some, None, codes, decimal, Option, nat_le}
use Rattle.protocol.specs.Meaning.{heading_in}
use Rattle.protocol.specs.Model.{RowModel, Title}

-- a name, or nothing
abbrev pub name_of : Option Title → List ℕ
name_of None = []
name_of (Some h) = h.name

-- the name of a row, and nothing past the catalogue's end
abbrev pub name_in : List RowModel → ℕ → List ℕ
name_in rows row = name_of (heading_in rows row)

-- a byte that can be printed, or a question mark
abbrev pub seen : ℕ → ℕ
seen b = cond (nat_le 32 b && nat_le b 126) b 63

-- a name that a client sent: its first 64 bytes
abbrev pub sent : List ℕ → List ℕ
sent name = map seen (take 64 name)

-- an id that names no live object, of a sender or of an argument
abbrev pub unknown_id : ℕ → List ℕ
unknown_id id = codes "Unknown id: " ++ decimal id ++ codes "."

-- a new id that is null, beyond or taken
abbrev pub invalid_new_id : ℕ → List ℕ
invalid_new_id id = codes "Invalid new_id: " ++ decimal id ++ codes "."

-- an opcode that the sender's interface lacks
abbrev pub unknown_opcode : ℕ → List ℕ → List ℕ
unknown_opcode opcode interface = codes "Unknown opcode " ++ decimal opcode ++ codes " for interface " ++ interface ++ codes "."

-- a request that is newer than its sender
abbrev pub invalid_method : ℕ → ℕ → ℕ → List ℕ → ℕ → List ℕ
invalid_method opcode version since interface id =
    codes "invalid method " ++ decimal opcode ++ codes " (since " ++ decimal version ++ codes " < " ++ decimal since ++ codes "), object "
    ++ interface ++ codes "#" ++ decimal id

-- a bind of what the client may not have
abbrev pub invalid_binding : List ℕ → ℕ → ℕ → List ℕ
invalid_binding interface version global =
    codes "Invalid binding of " ++ sent interface ++ codes " version " ++ decimal version ++ codes " for global " ++ decimal global ++ codes "."

-- an object argument of another interface
abbrev pub invalid_object : ℕ → List ℕ → List ℕ → List ℕ → List ℕ → List ℕ
invalid_object id interface message expected got =
    codes "Invalid object " ++ decimal id ++ codes " in request " ++ interface ++ codes "." ++ message ++ codes ": expected " ++ expected
    ++ codes " but got " ++ got ++ codes "."

-- a null object where none is allowed
abbrev pub invalid_null : List ℕ → List ℕ → List ℕ
invalid_null interface message = codes "Invalid null object in request " ++ interface ++ codes "." ++ message ++ codes "."

-- a table or the roll is full
abbrev pub no_memory : List ℕ
no_memory = codes "No memory."

-- a request has not the form of its signature
abbrev pub malformed_request : List ℕ
malformed_request = codes "Malformed request."

-- a null text where none is allowed
abbrev pub null_text : List ℕ
null_text = codes "Null text."

-- a bind without an interface
abbrev pub null_interface : List ℕ
null_interface = codes "Null interface."
