-- Arguments by their kind.
use Rattle.std.specs.Prelude.{ℕ, List, [], ◌∷◌, Some, None, Option}
use Rattle.protocol.specs.declared.argument.Argument.{Argument}
use Rattle.protocol.specs.declared.argument.Argument.TheVariants.{Int, Uint, Fixed, Str, Object, NewId, Array, Fd}

-- the number of an unsigned argument
abbrev pub as_uint : {Id Bytes : Type 0} → Argument Id Bytes → Option ℕ
as_uint (Int x) = None
as_uint (Uint x) = Some x
as_uint (Fixed x) = None
as_uint (Str x) = None
as_uint (Object x) = None
as_uint (NewId x) = None
as_uint (Array x) = None
as_uint (Fd x) = None

-- a text, which may be null
abbrev pub as_text : {Id Bytes : Type 0} → Argument Id Bytes → Option (Option Bytes)
as_text (Int x) = None
as_text (Uint x) = None
as_text (Fixed x) = None
as_text (Str x) = Some x
as_text (Object x) = None
as_text (NewId x) = None
as_text (Array x) = None
as_text (Fd x) = None

-- an object
abbrev pub as_object : {Id Bytes : Type 0} → Argument Id Bytes → Option Id
as_object (Int x) = None
as_object (Uint x) = None
as_object (Fixed x) = None
as_object (Str x) = None
as_object (Object x) = Some x
as_object (NewId x) = None
as_object (Array x) = None
as_object (Fd x) = None

-- a new id
abbrev pub as_new_id : {Id Bytes : Type 0} → Argument Id Bytes → Option Id
as_new_id (Int x) = None
as_new_id (Uint x) = None
as_new_id (Fixed x) = None
as_new_id (Str x) = None
as_new_id (Object x) = None
as_new_id (NewId x) = Some x
as_new_id (Array x) = None
as_new_id (Fd x) = None

-- one after the other, where there is a first
abbrev pub if_some : {A B : Type 0} → Option A → (A → Option B) → Option B
if_some None f = None
if_some (Some a) f = f a

-- the new id of a request whose one argument it is
abbrev pub only_new_id : {Id Bytes : Type 0} → List (Argument Id Bytes) → Option Id
only_new_id [] = None
only_new_id (a ∷ []) = as_new_id a
only_new_id (a ∷ b ∷ more) = None

-- what a bind asks for
pub record BindAsked (Bytes : Type 0) : Type 0 where
  pub name : ℕ
  pub interface : Option Bytes
  pub version : ℕ
  pub new_id : ℕ

-- the four arguments of a bind, in order: a name, an interface text, a version and a new id
abbrev pub bind_arguments : {Bytes : Type 0} → List (Argument ℕ Bytes) → Option (BindAsked Bytes)
bind_arguments [] = None
bind_arguments (a ∷ []) = None
bind_arguments (a ∷ b ∷ []) = None
bind_arguments (a ∷ b ∷ c ∷ []) = None
bind_arguments (a ∷ b ∷ c ∷ d ∷ []) =
    if_some (as_uint a) (λ name. if_some (as_text b) (λ text. if_some (as_uint c) (λ version. if_some (as_new_id d) (λ id.
    Some (record { name = name; interface = text; version = version; new_id = id })))))
bind_arguments (a ∷ b ∷ c ∷ d ∷ e ∷ more) = None
