-- The error that a client is told for each fault.
use Rattle.std.specs.Prelude.{ℕ}
use Rattle.map.specs.declared.fault.MapFault.{MapFault}
use Rattle.map.specs.declared.fault.MapFault.TheVariants.{Zero, Beyond, Taken, Full}
use Rattle.backend.specs.declared.faults.DisplayError.{DisplayError}
use Rattle.backend.specs.declared.faults.DisplayError.TheVariants.{InvalidObject, InvalidMethod, NoMemory}
use Rattle.backend.specs.declared.faults.ClientFault.{ClientFault}
use Rattle.backend.specs.declared.faults.ClientFault.TheVariants.{Entry, RollFull, NullText, NullInterface, NullObject, UnknownId, WrongInterface}
use Rattle.backend.specs.declared.faults.StepFault.{StepFault}
use Rattle.backend.specs.declared.faults.StepFault.TheVariants.{UnknownSender, UnknownOpcode, Malformed, TooNew, InvalidBinding, Argument}

-- the number of an error on the wire
abbrev pub number_of_error : DisplayError → ℕ
number_of_error InvalidObject = 0
number_of_error InvalidMethod = 1
number_of_error NoMemory = 2

-- an entry that found its table full is want of memory, any other an invalid object
abbrev pub code_of_entry : MapFault → DisplayError
code_of_entry Zero = InvalidObject
code_of_entry Beyond = InvalidObject
code_of_entry Taken = InvalidObject
code_of_entry Full = NoMemory

-- the error of an argument's fault
abbrev pub code_in : ClientFault → DisplayError
code_in (Entry f) = code_of_entry f
code_in RollFull = NoMemory
code_in NullText = InvalidMethod
code_in NullInterface = InvalidMethod
code_in NullObject = InvalidObject
code_in UnknownId = InvalidObject
code_in WrongInterface = InvalidObject

-- the error of a step's fault
abbrev pub code_of : StepFault → DisplayError
code_of UnknownSender = InvalidObject
code_of UnknownOpcode = InvalidMethod
code_of Malformed = InvalidMethod
code_of TooNew = InvalidMethod
code_of InvalidBinding = InvalidObject
code_of (Argument a) = code_in a.fault
