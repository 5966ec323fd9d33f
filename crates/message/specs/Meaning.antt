-- What the arguments of a message mean beside a body.
use Rattle.std.specs.Prelude.{ℕ, List, ◌++◌, map, length, take, drop, replicate}
use Rattle.std.specs.Option.{option_map}
use Rattle.protocol.specs.declared.argument.Argument.{Argument}
use Rattle.protocol.specs.declared.argument.Argument.TheVariants.{Int, Uint, Fixed, Str, Object, NewId, Array, Fd}
use Rattle.message.specs.declared.part.Part.{Part}
use Rattle.message.specs.declared.Message.{Message}

-- an argument whose texts and arrays are kept in another way
abbrev pub map_bytes : {Id A B : Type 0} → (A → B) → Argument Id A → Argument Id B
map_bytes f (Int x) = Int x
map_bytes f (Uint x) = Uint x
map_bytes f (Fixed x) = Fixed x
map_bytes f (Str t) = Str (option_map f t)
map_bytes f (Object x) = Object x
map_bytes f (NewId x) = NewId x
map_bytes f (Array a) = Array (f a)
map_bytes f (Fd x) = Fd x

-- the bytes of a part, cut where the body ends
abbrev pub part_in : List ℕ → Part → List ℕ
part_in body p = take p.len (drop p.start body)

-- what an argument says beside a body: its texts and arrays are bytes
abbrev pub meaning : List ℕ → Argument ℕ Part → Argument ℕ (List ℕ)
meaning body = map_bytes (part_in body)

-- the arguments of a message: those that count, of at most eight
abbrev pub said : Message → List (Argument ℕ Part)
said m = take m.count m.arguments

-- what they say, in order
abbrev pub meanings : List ℕ → Message → List (Argument ℕ (List ℕ))
meanings body m = map (meaning body) (said m)

-- no arguments
abbrev pub no_arguments : Message
no_arguments = record { count = 0; arguments = replicate 8 (Uint 0) }

-- items laid at the front of a buffer, as many as it can hold; past them it is as it was
abbrev pub overlaid : {X : Type 0} → List X → List X → List X
overlaid items buffer = take (length buffer) items ++ drop (length items) buffer
