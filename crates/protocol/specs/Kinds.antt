-- Kinds of arguments: when two are the same, which one an argument has, and when arguments agree with a signature.
use Rattle.std.specs.Prelude.{Bool, true, false, ◌&&◌, List, [], ◌∷◌}
use Rattle.protocol.specs.declared.argument.AllowNull.TheVariants.{Yes}
use Rattle.protocol.specs.declared.argument.ArgumentType.{ArgumentType}
use Rattle.protocol.specs.declared.argument.ArgumentType.TheVariants.{Int, Uint, Fixed, Str, Object, NewId, Array, Fd}
use Rattle.protocol.specs.declared.argument.Argument.{Argument}
use Rattle.protocol.specs.declared.argument.Argument.TheVariants as arg

-- a signed number
abbrev pub is_int : ArgumentType → Bool
is_int Int = true
is_int Uint = false
is_int Fixed = false
is_int (Str n) = false
is_int (Object n) = false
is_int NewId = false
is_int Array = false
is_int Fd = false

-- an unsigned number
abbrev pub is_uint : ArgumentType → Bool
is_uint Int = false
is_uint Uint = true
is_uint Fixed = false
is_uint (Str n) = false
is_uint (Object n) = false
is_uint NewId = false
is_uint Array = false
is_uint Fd = false

-- a number of 256ths
abbrev pub is_fixed : ArgumentType → Bool
is_fixed Int = false
is_fixed Uint = false
is_fixed Fixed = true
is_fixed (Str n) = false
is_fixed (Object n) = false
is_fixed NewId = false
is_fixed Array = false
is_fixed Fd = false

-- a text, null allowed or not
abbrev pub is_str : ArgumentType → Bool
is_str Int = false
is_str Uint = false
is_str Fixed = false
is_str (Str n) = true
is_str (Object n) = false
is_str NewId = false
is_str Array = false
is_str Fd = false

-- an object, null allowed or not
abbrev pub is_object : ArgumentType → Bool
is_object Int = false
is_object Uint = false
is_object Fixed = false
is_object (Str n) = false
is_object (Object n) = true
is_object NewId = false
is_object Array = false
is_object Fd = false

-- a new id
abbrev pub is_new_id : ArgumentType → Bool
is_new_id Int = false
is_new_id Uint = false
is_new_id Fixed = false
is_new_id (Str n) = false
is_new_id (Object n) = false
is_new_id NewId = true
is_new_id Array = false
is_new_id Fd = false

-- bytes
abbrev pub is_array : ArgumentType → Bool
is_array Int = false
is_array Uint = false
is_array Fixed = false
is_array (Str n) = false
is_array (Object n) = false
is_array NewId = false
is_array Array = true
is_array Fd = false

-- a file descriptor
abbrev pub is_fd : ArgumentType → Bool
is_fd Int = false
is_fd Uint = false
is_fd Fixed = false
is_fd (Str n) = false
is_fd (Object n) = false
is_fd NewId = false
is_fd Array = false
is_fd Fd = true

-- two kinds are the same whatever they say of null
abbrev pub same_type : ArgumentType → ArgumentType → Bool
same_type Int b = is_int b
same_type Uint b = is_uint b
same_type Fixed b = is_fixed b
same_type (Str n) b = is_str b
same_type (Object n) b = is_object b
same_type NewId b = is_new_id b
same_type Array b = is_array b
same_type Fd b = is_fd b

-- a kind with null allowed, where it can be
abbrev pub unmarked : ArgumentType → ArgumentType
unmarked Int = Int
unmarked Uint = Uint
unmarked Fixed = Fixed
unmarked (Str n) = Str Yes
unmarked (Object n) = Object Yes
unmarked NewId = NewId
unmarked Array = Array
unmarked Fd = Fd

-- the kind that an argument has
abbrev pub kind_of : {Id Bytes : Type 0} → Argument Id Bytes → ArgumentType
kind_of (arg.Int x) = Int
kind_of (arg.Uint x) = Uint
kind_of (arg.Fixed x) = Fixed
kind_of (arg.Str x) = Str Yes
kind_of (arg.Object x) = Object Yes
kind_of (arg.NewId x) = NewId
kind_of (arg.Array x) = Array
kind_of (arg.Fd x) = Fd

-- arguments agree with a signature: as many, and each of its kind
abbrev pub agree : {Id Bytes : Type 0} → List ArgumentType → List (Argument Id Bytes) → Bool
agree [] [] = true
agree [] (a ∷ as') = false
agree (k ∷ ks) [] = false
agree (k ∷ ks) (a ∷ as') = same_type (kind_of a) k && agree ks as'
