-- What an event means, and which events a wire takes.
use Rattle.std.specs.Prelude.{ℕ, ◌+◌, Bool, true, ◌&&◌, List, [], ◌∷◌, length, replicate, Some, None, Option, nat_le, nat_lt}
use Rattle.protocol.specs.Tallies.{all}
use Rattle.protocol.specs.declared.argument.Argument.{Argument}
use Rattle.protocol.specs.declared.argument.Argument.TheVariants.{Int, Uint, Fixed, Str, Object, NewId, Array, Fd}
use Rattle.message.specs.declared.event.Event.{Event}
use Rattle.message.specs.Meaning.{meanings, no_arguments}

-- an event: its sender's id, its opcode, and its arguments with their bytes
pub record EventModel : Type 0 where
  pub sender : ℕ
  pub opcode : ℕ
  pub arguments : List (Argument ℕ (List ℕ))

abbrev pub event_of : Event → EventModel
event_of e = record { sender = e.sender; opcode = e.opcode; arguments = meanings e.bytes e.message }

-- an event with no arguments
abbrev pub bare : ℕ → ℕ → Event
bare sender opcode = record { sender = sender; opcode = opcode; message = no_arguments; bytes = replicate 256 0 }

abbrev text_weight : Option (List ℕ) → ℕ
text_weight None = 0
text_weight (Some t) = length t

-- how many bytes of text or array an argument has
abbrev pub weight : Argument ℕ (List ℕ) → ℕ
weight (Int x) = 0
weight (Uint x) = 0
weight (Fixed x) = 0
weight (Str t) = text_weight t
weight (Object x) = 0
weight (NewId x) = 0
weight (Array a) = length a
weight (Fd x) = 0

abbrev text_clean : Option (List ℕ) → Bool
text_clean None = true
text_clean (Some t) = all (λ b. nat_lt 0 b) t

-- a text holds no zero
abbrev pub clean : Argument ℕ (List ℕ) → Bool
clean (Int x) = true
clean (Uint x) = true
clean (Fixed x) = true
clean (Str t) = text_clean t
clean (Object x) = true
clean (NewId x) = true
clean (Array a) = true
clean (Fd x) = true

-- the bytes of text and array of all arguments together
abbrev pub total : List (Argument ℕ (List ℕ)) → ℕ
total [] = 0
total (a ∷ more) = weight a + total more

-- a wire takes an event whose texts and arrays have at most 256 bytes together, and no zero in a text
abbrev pub sendable : EventModel → Bool
sendable e = nat_le (total e.arguments) 256 && all clean e.arguments
