-- Objects by name: an id, the serial and the interface row that the object must have.
use Rattle.std.specs.Prelude.{cond, ◌&&◌, Some, None, Ok, Err, Option, Result, ◌==◌}
use Rattle.map.specs.declared.DataMark.{DataMark}
use Rattle.map.specs.declared.fault.InvalidId.{InvalidId}
use Rattle.map.specs.declared.LocalId.{LocalId}
use Rattle.map.specs.declared.Object.{Object}
use Rattle.map.specs.declared.ObjectData.{ObjectData}
use Rattle.map.specs.declared.ObjectMap.{ObjectMap}
use Rattle.map.specs.Map.{find_in, invalid, put_at, with_data}

-- the object, if it has the serial and the row of the name
abbrev pub agreeing : Option (Object ObjectData) → LocalId → Result (Object ObjectData) InvalidId
agreeing None name = Err invalid
agreeing (Some o) name = cond (o.«data».serial == name.serial && o.row == name.row) (Ok o) (Err invalid)

-- the object that a name names
abbrev pub lookup_in : ObjectMap ObjectData → LocalId → Result (Object ObjectData) InvalidId
lookup_in m name = agreeing (find_in m name.id) name

-- an object with another mark: its serial, row and version stay
abbrev pub with_mark : Object ObjectData → DataMark → Object ObjectData
with_mark o mark = with_data o (record { serial = o.«data».serial; mark = mark })

-- whether there is an object
abbrev pub answer_for : Result (Object ObjectData) InvalidId → Result (Unit {0}) InvalidId
answer_for (Ok o) = Ok tt
answer_for (Err e) = Err e

-- the answer of a change of the mark of the object that a name names
abbrev pub mark_answer : ObjectMap ObjectData → LocalId → Result (Unit {0}) InvalidId
mark_answer m name = answer_for (lookup_in m name)

-- the map after a change of the mark of the object o that a name named
abbrev pub mark_over : Result (Object ObjectData) InvalidId → ObjectMap ObjectData → LocalId → DataMark → ObjectMap ObjectData
mark_over (Ok o) m name mark = put_at m name.id (Some (with_mark o mark))
mark_over (Err e) m name mark = m

-- the map after a change of the mark of the object that a name names
abbrev pub mark_after : ObjectMap ObjectData → LocalId → DataMark → ObjectMap ObjectData
mark_after m name mark = mark_over (lookup_in m name) m name mark
