-- What the errors of the map say.
use Rattle.std.specs.Prelude.{ℕ, List, codes}
use Rattle.map.specs.declared.fault.MapFault.{MapFault}
use Rattle.map.specs.declared.fault.MapFault.TheVariants.{Zero, Beyond, Taken, Full}

abbrev pub text_of : MapFault → List ℕ
text_of Zero = codes "zero"
text_of Beyond = codes "beyond"
text_of Taken = codes "taken"
text_of Full = codes "full"

-- of a name that names no object
abbrev pub invalid_text : List ℕ
invalid_text = codes "invalid id"
