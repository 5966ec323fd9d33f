-- The events that the engine writes of its own accord.
use Rattle.std.specs.Prelude.{ℕ, List, [], ◌∷◌, Some}
use Rattle.protocol.specs.declared.argument.Argument.TheVariants.{Uint, Str, Object}
use Rattle.message.specs.Events.{EventModel}

-- wl_display.error: the object that it is about, the code, and the text
abbrev pub error_event : ℕ → ℕ → List ℕ → EventModel
error_event object code text = record { sender = 1; opcode = 0; arguments = Object object ∷ Uint code ∷ Str (Some text) ∷ [] }

-- wl_display.delete_id: the id may be used again
abbrev pub delete_id : ℕ → EventModel
delete_id id = record { sender = 1; opcode = 1; arguments = Uint id ∷ [] }

-- wl_callback.done
abbrev pub done_event : ℕ → EventModel
done_event callback = record { sender = callback; opcode = 0; arguments = Uint 0 ∷ [] }

-- wl_registry.global: a global's name, its interface and its version
abbrev pub global_event : ℕ → ℕ → List ℕ → ℕ → EventModel
global_event registry name interface version = record { sender = registry; opcode = 0; arguments = Uint name ∷ Str (Some interface) ∷ Uint version ∷ [] }

-- wl_registry.global_remove
abbrev pub global_remove : ℕ → ℕ → EventModel
global_remove registry name = record { sender = registry; opcode = 1; arguments = Uint name ∷ [] }
