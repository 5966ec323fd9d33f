-- The rows that every catalogue begins with, and the row that stands where none was filled in.
use Rattle.std.specs.Prelude.{ℕ, true, false, List, [], ◌∷◌, Some, None, codes, Option}
use Rattle.protocol.specs.declared.argument.AllowNull.TheVariants.{No}
use Rattle.protocol.specs.declared.argument.ArgumentType.{ArgumentType}
use Rattle.protocol.specs.declared.argument.ArgumentType.TheVariants.{Uint, Str, Object, NewId}
use Rattle.protocol.specs.Model.{MessageModel, RowModel}

-- a message of version 1 that does not end its sender
abbrev plain : List ℕ → List ArgumentType → Option ℕ → List ℕ → MessageModel
plain name kinds child rows = record { name = name; since = 1; destructor = false; kinds = kinds; child = child; rows = rows }

-- row 0, which admits every interface
abbrev pub anonymous : RowModel
anonymous = record { name = codes "<anonymous>"; version = 0; requests = []; events = [] }

-- row 1
abbrev pub display : RowModel
display = record {
  name = codes "wl_display";
  version = 1;
  requests = plain (codes "sync") (NewId ∷ []) (Some 3) [] ∷ plain (codes "get_registry") (NewId ∷ []) (Some 2) [] ∷ [];
  events = plain (codes "error") (Object No ∷ Uint ∷ Str No ∷ []) None (0 ∷ []) ∷ plain (codes "delete_id") (Uint ∷ []) None [] ∷ [];
}

-- row 2
abbrev pub registry : RowModel
registry = record {
  name = codes "wl_registry";
  version = 1;
  requests = plain (codes "bind") (Uint ∷ Str No ∷ Uint ∷ NewId ∷ []) None [] ∷ [];
  events = plain (codes "global") (Uint ∷ Str No ∷ Uint ∷ []) None [] ∷ plain (codes "global_remove") (Uint ∷ []) None [] ∷ [];
}

-- row 3
abbrev pub callback : RowModel
callback = record {
  name = codes "wl_callback";
  version = 1;
  requests = [];
  events = record { name = codes "done"; since = 1; destructor = true; kinds = Uint ∷ []; child = None; rows = [] } ∷ [];
}

-- the rows 0 to 3 of every catalogue
abbrev pub core_rows : List RowModel
core_rows = anonymous ∷ display ∷ registry ∷ callback ∷ []

-- a row that was not filled yet
abbrev pub blank : RowModel
blank = record { name = codes "<unset>"; version = 0; requests = []; events = [] }
