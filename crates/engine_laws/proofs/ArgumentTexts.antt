-- The text of every fault of an argument fits.
use Rattle.std.proofs.Common.{ℕ, ◌+◌, ◌^◌, ◌<◌, eqb, List, [], ◌∷◌, Some, None, Ok, Err, Option, Result}
use Rattle.std.proofs.lemmas.Bool.{cond_both}
use Rattle.std.specs.List.{AllByRecursion}
use Rattle.map.specs.declared.fault.MapFault.{MapFault}
use Rattle.map.specs.declared.Object.{Object}
use Rattle.map.specs.declared.ObjectData.{ObjectData}
use Rattle.map.specs.Map.{find_in, insert_answer}
use Rattle.protocol.specs.declared.argument.AllowNull.{AllowNull}
use Rattle.protocol.specs.declared.argument.Argument.{Argument}
use Rattle.protocol.specs.declared.argument.Argument.TheVariants.{Int, Uint, Fixed, Str, Object as ObjectArgument, NewId, Array, Fd}
use Rattle.protocol.specs.declared.argument.ArgumentType.{ArgumentType}
use Rattle.protocol.specs.declared.argument.ArgumentType.TheVariants as kind
use Rattle.protocol.specs.Lawful.{Lawful}
use Rattle.protocol.specs.Meaning.{admits_in}
use Rattle.message.specs.declared.part.Part.{Part}
use Rattle.backend.specs.declared.ids.ObjectId.{ObjectId}
use Rattle.backend.specs.Texts.{name_in}
use Rattle.backend.specs.Reading.{as_text, as_uint, as_object, as_new_id, if_some, only_new_id, BindAsked, bind_arguments}
use Rattle.backend.specs.World.{Terms}
use Rattle.backend.specs.Acts.{Seat}
use Rattle.backend.specs.Arguments.{Asked, Failing, Checked, forbids_null, is_null_text, text_argument, next_row, live_argument, object_argument, entering, new_id_argument, argument, Walked, continued, walk}
use Rattle.engine_laws.specs.ErrorTexts.{number_of}
use Rattle.engine_laws.proofs.TextSizes.{Sized, Fits, row_name, unknown_id_fits, null_text_fits, entry_fits, invalid_object_fits, invalid_null_fits}

-- Numbers of arguments.

abbrev pub Small : ℕ → Type 0
Small n = n < 2 ^ 32

abbrev pub SmallIf : Option ℕ → Type 0
SmallIf None = Unit {0}
SmallIf (Some n) = Small n

abbrev pub AllSmall : List (Argument ℕ Part) → Type 0
AllSmall as' = AllByRecursion (λ (a : Argument ℕ Part). number_of a < 2 ^ 32) as'

small_uint : (a : Argument ℕ Part) → Small (number_of a) → SmallIf (as_uint a)
small_uint (Int x) s = tt
small_uint (Uint x) s = s
small_uint (Fixed x) s = tt
small_uint (Str x) s = tt
small_uint (ObjectArgument x) s = tt
small_uint (NewId x) s = tt
small_uint (Array x) s = tt
small_uint (Fd x) s = tt

small_object : (a : Argument ℕ Part) → Small (number_of a) → SmallIf (as_object a)
small_object (Int x) s = tt
small_object (Uint x) s = tt
small_object (Fixed x) s = tt
small_object (Str x) s = tt
small_object (ObjectArgument x) s = s
small_object (NewId x) s = tt
small_object (Array x) s = tt
small_object (Fd x) s = tt

small_new_id : (a : Argument ℕ Part) → Small (number_of a) → SmallIf (as_new_id a)
small_new_id (Int x) s = tt
small_new_id (Uint x) s = tt
small_new_id (Fixed x) s = tt
small_new_id (Str x) s = tt
small_new_id (ObjectArgument x) s = tt
small_new_id (NewId x) s = s
small_new_id (Array x) s = tt
small_new_id (Fd x) s = tt

pub small_only : (as' : List (Argument ℕ Part)) → AllSmall as' → SmallIf (only_new_id as')
small_only [] s = tt
small_only (a ∷ []) s = small_new_id a s.0
small_only (a ∷ b ∷ more) s = tt

abbrev pub SmallBind : Option (BindAsked Part) → Type 0
SmallBind None = Unit {0}
SmallBind (Some a) = Small a.name × Small a.version × Small a.new_id

pub small_bind : (as' : List (Argument ℕ Part)) → AllSmall as' → SmallBind (bind_arguments as')
small_bind [] s = tt
small_bind (a ∷ []) s = tt
small_bind (a ∷ b ∷ []) s = tt
small_bind (a ∷ b ∷ c ∷ []) s = tt
small_bind (a ∷ b ∷ c ∷ d ∷ []) s = named (as_uint a) (small_uint a s.0)
  where
    entered : (n : ℕ) → Small n → (text : Option Part) (v : ℕ) → Small v → (id : Option ℕ) → SmallIf id
        → SmallBind (if_some id (λ (id : ℕ). Some (record { name = n; interface = text; version = v; new_id = id })))
    entered n m text v k None j = tt
    entered n m text v k (Some id) j = (m, k, j)

    versioned : (n : ℕ) → Small n → (text : Option Part) (v : Option ℕ) → SmallIf v
        → SmallBind (if_some v (λ (version : ℕ). if_some (as_new_id d) (λ (id : ℕ). Some (record { name = n; interface = text; version = version; new_id = id }))))
    versioned n m text None k = tt
    versioned n m text (Some v) k = entered n m text v k (as_new_id d) (small_new_id d s.1.1.1.0)

    texted : (n : ℕ) → Small n → (text : Option (Option Part))
        → SmallBind (if_some text (λ (text : Option Part). if_some (as_uint c) (λ (version : ℕ). if_some (as_new_id d) (λ (id : ℕ). Some (record { name = n; interface = text; version = version; new_id = id })))))
    texted n m None = tt
    texted n m (Some text) = versioned n m text (as_uint c) (small_uint c s.1.1.0)

    named : (n : Option ℕ) → SmallIf n
        → SmallBind (if_some n (λ (name : ℕ). if_some (as_text b) (λ (text : Option Part). if_some (as_uint c) (λ (version : ℕ). if_some (as_new_id d) (λ (id : ℕ). Some (record { name = name; interface = text; version = version; new_id = id }))))))
    named None m = tt
    named (Some n) m = texted n m (as_text b)
small_bind (a ∷ b ∷ c ∷ d ∷ e ∷ more) s = tt

-- The walk over the arguments.

abbrev pub FaultFits : Option Failing → Type 0
FaultFits None = Unit {0}
FaultFits (Some f) = Fits f.text

module _ (t : Terms) (lawful : Lawful t.rows) (q : Asked) (named : Sized 32 q.message.name) where
  abbrev row_fits : (row : ℕ) → Sized 32 (name_in t.rows row)
  row_fits row = row_name t.rows lawful row

  text_fits : (i : ℕ) (n : AllowNull) (x : Option (Option Part)) (child : Option ObjectId) (wanted : List ℕ) (s : Seat) → FaultFits (text_argument i n x child wanted s).fault
  text_fits i n x child wanted s =
      cond_both (is_null_text x) _ _ (λ (c : Checked). FaultFits c.fault) (λ _. cond_both (forbids_null n) _ _ (λ (c : Checked). FaultFits c.fault) (λ _. null_text_fits) (λ _. tt)) (λ _. tt)

  live_fits : (i id : ℕ) → Small id → (o : Option (Object ObjectData)) (child : Option ObjectId) (wanted : List ℕ) (s : Seat) → FaultFits (live_argument t q i id o child wanted s).fault
  live_fits i id small None child wanted s = unknown_id_fits id small
  live_fits i id small (Some o) child wanted s =
      cond_both (admits_in t.rows (next_row wanted) o.row) _ _ (λ (c : Checked). FaultFits c.fault) (λ _. tt)
      (λ _. invalid_object_fits id _ _ _ _ small (row_fits q.sender.row) named (row_fits (next_row wanted)) (row_fits o.row))

  object_fits : (i : ℕ) (n : AllowNull) (x : Option ℕ) → SmallIf x → (child : Option ObjectId) (wanted : List ℕ) (s : Seat) → FaultFits (object_argument t q i n x child wanted s).fault
  object_fits i n None small child wanted s = tt
  object_fits i n (Some id) small child wanted s =
      cond_both (eqb id 0) _ _ (λ (c : Checked). FaultFits c.fault)
      (λ _. cond_both (forbids_null n) _ _ (λ (c : Checked). FaultFits c.fault) (λ _. invalid_null_fits _ _ (row_fits q.sender.row) named) (λ _. tt))
      (λ _. live_fits i id small (find_in s.client.map id) child wanted s)

  entering_fits : (i id : ℕ) → Small id → (r : Result (Unit {0}) MapFault) (child : Option ObjectId) (wanted : List ℕ) (s : Seat) → FaultFits (entering q i id r child wanted s).fault
  entering_fits i id small (Ok u) child wanted s = tt
  entering_fits i id small (Err f) child wanted s = entry_fits f id small

  new_id_fits : (i : ℕ) (x : Option ℕ) → SmallIf x → (child : Option ObjectId) (wanted : List ℕ) (s : Seat) → FaultFits (new_id_argument q i x child wanted s).fault
  new_id_fits i None small child wanted s = tt
  new_id_fits i (Some id) small child wanted s = entering_fits i id small (insert_answer s.client.map id) child wanted s

  argument_fits : (i : ℕ) (k : ArgumentType) (a : Argument ℕ Part) → Small (number_of a) → (child : Option ObjectId) (wanted : List ℕ) (s : Seat) → FaultFits (argument t q i k a child wanted s).fault
  argument_fits i kind.Int a small child wanted s = tt
  argument_fits i kind.Uint a small child wanted s = tt
  argument_fits i kind.Fixed a small child wanted s = tt
  argument_fits i (kind.Str n) a small child wanted s = text_fits i n (as_text a) child wanted s
  argument_fits i (kind.Object n) a small child wanted s = object_fits i n (as_object a) (small_object a small) child wanted s
  argument_fits i kind.NewId a small child wanted s = new_id_fits i (as_new_id a) (small_new_id a small) child wanted s
  argument_fits i kind.Array a small child wanted s = tt
  argument_fits i kind.Fd a small child wanted s = tt

  continued_fits : (f : Option Failing) (c : Checked) (rest : Walked) → FaultFits f → FaultFits rest.fault → FaultFits (continued f c rest).fault
  continued_fits (Some f) c rest here there = here
  continued_fits None c rest here there = there

  pub walk_fits : (i : ℕ) (ks : List ArgumentType) (as' : List (Argument ℕ Part)) → AllSmall as' → (child : Option ObjectId) (wanted : List ℕ) (s : Seat) → FaultFits (walk t q i ks as' child wanted s).fault
  walk_fits i [] as' small child wanted s = tt
  walk_fits i (k ∷ ks) [] small child wanted s = tt
  walk_fits i (k ∷ ks) (a ∷ as') small child wanted s =
      let c = argument t q i k a child wanted s in
      continued_fits c.fault c _ (argument_fits i k a small.0 child wanted s) (walk_fits (i + 1) ks as' small.1 c.child c.wanted c.seat)
