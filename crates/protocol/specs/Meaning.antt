-- What a catalogue answers, from its list of rows.
use Rattle.std.specs.Prelude.{ℕ, Bool, true, false, cond, List, Some, None, Option, ◌==◌}
use Rattle.std.specs.Option.{option_map}
use Rattle.std.specs.List.{slice_get}
use Rattle.std.specs.Str.{bytes_eq}
use Rattle.protocol.specs.Model.{MessageModel, RowModel, Title, title_of}

-- the name and version of a row number, or none past the list's end
abbrev pub heading_in : List RowModel → ℕ → Option Title
heading_in rows row = option_map title_of (slice_get rows row)

abbrev pub request_of : Option RowModel → ℕ → Option MessageModel
request_of None opcode = None
request_of (Some r) opcode = slice_get r.requests opcode

abbrev pub event_of : Option RowModel → ℕ → Option MessageModel
event_of None opcode = None
event_of (Some r) opcode = slice_get r.events opcode

-- the request of an opcode in a row
abbrev pub request_in : List RowModel → ℕ → ℕ → Option MessageModel
request_in rows row opcode = request_of (slice_get rows row) opcode

-- the event of an opcode in a row
abbrev pub event_in : List RowModel → ℕ → ℕ → Option MessageModel
event_in rows row opcode = event_of (slice_get rows row) opcode

-- rows with equal names are the same interface
abbrev pub same_title : Option Title → Option Title → Bool
same_title None b = false
same_title (Some a) None = false
same_title (Some a) (Some b) = bytes_eq a.name b.name

abbrev pub same_interface : List RowModel → ℕ → ℕ → Bool
same_interface rows a b = same_title (heading_in rows a) (heading_in rows b)

-- an argument row admits an object's row: row 0 admits all, another its own interface
abbrev pub admits_in : List RowModel → ℕ → ℕ → Bool
admits_in rows wanted given = cond (wanted == 0) true (same_interface rows wanted given)
