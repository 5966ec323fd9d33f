-- What an interface and a message mean, however they are kept in memory.
use Rattle.std.specs.Prelude.{ℕ, Bool, List, map, vec_items, Option}
use Rattle.protocol.specs.declared.argument.ArgumentType.{ArgumentType}
use Rattle.protocol.specs.declared.interface.MessageDesc.{MessageDesc}
use Rattle.protocol.specs.declared.interface.MessageBuf.{MessageBuf}
use Rattle.protocol.specs.declared.interface.Interface.{Interface}
use Rattle.protocol.specs.declared.interface.InterfaceBuf.{InterfaceBuf}
use Rattle.protocol.specs.declared.interface.Heading.{Heading}

-- a request or an event: its name, the lowest version that has it, whether it ends its sender, the kinds of its
-- arguments, the row of the object that it makes, and the rows of its Object arguments in order
pub record MessageModel : Type 0 where
  pub name : List ℕ
  pub since : ℕ
  pub destructor : Bool
  pub kinds : List ArgumentType
  pub child : Option ℕ
  pub rows : List ℕ

-- a row of a catalogue: an interface
pub record RowModel : Type 0 where
  pub name : List ℕ
  pub version : ℕ
  pub requests : List MessageModel
  pub events : List MessageModel

-- the name and version of a row
pub record Title : Type 0 where
  pub name : List ℕ
  pub version : ℕ

abbrev pub title_of : RowModel → Title
title_of r = record { name = r.name; version = r.version }

-- a message that is a view
abbrev pub said : MessageDesc → MessageModel
said m = record {
  name = m.name.now;
  since = m.since;
  destructor = m.is_destructor;
  kinds = m.signature.now;
  child = m.child_interface;
  rows = m.arg_interfaces.now;
}

-- a message that owns its parts
abbrev pub said_buf : MessageBuf → MessageModel
said_buf m = record {
  name = vec_items m.name;
  since = m.since;
  destructor = m.is_destructor;
  kinds = vec_items m.signature;
  child = m.child_interface;
  rows = vec_items m.arg_interfaces;
}

-- an interface that is a view
abbrev pub meant : Interface → RowModel
meant i = record { name = i.name.now; version = i.version; requests = map said i.requests.now; events = map said i.events.now }

-- an interface that owns its parts
abbrev pub meant_buf : InterfaceBuf → RowModel
meant_buf i = record {
  name = vec_items i.name;
  version = i.version;
  requests = map said_buf (vec_items i.requests);
  events = map said_buf (vec_items i.events);
}

-- a heading
abbrev pub titled : Heading → Title
titled h = record { name = h.name.now; version = h.version }
