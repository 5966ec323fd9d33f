-- The numbers of the refusals.
use Rattle.std.specs.Prelude.{◌≡◌, ℕ, ◌-◌, List, [], ◌∷◌, map, Some, codes}
use Rattle.std.specs.List.{slice_get}
use Rattle.protocol.specs.declared.refusal.Refusal.{Refusal}
use Rattle.protocol.specs.declared.refusal.Refusal.TheVariants.{
  BadSize,
  TicketOutstanding,
  NoClient,
  ClientKilled,
  DeadObject,
  Reserved,
  NoEvent,
  BadSignature,
  OtherClient,
  DeadArgument,
  NoChild,
  WrongInterface,
  NullArgument,
  NoRow,
  VersionAbove,
  NoVacancy,
  NoGlobal,
  WrongTicket,
  BreaksLaw,
}

-- the number by which a refusal is known
abbrev pub number_of : Refusal → ℕ
number_of BadSize = 1
number_of TicketOutstanding = 2
number_of NoClient = 3
number_of ClientKilled = 4
number_of DeadObject = 5
number_of Reserved = 6
number_of NoEvent = 7
number_of BadSignature = 8
number_of OtherClient = 9
number_of DeadArgument = 10
number_of NoChild = 11
number_of WrongInterface = 12
number_of NullArgument = 13
number_of NoRow = 14
number_of VersionAbove = 15
number_of NoVacancy = 16
number_of NoGlobal = 17
number_of WrongTicket = 18
number_of BreaksLaw = 19

-- what a refusal says
abbrev pub text_of : Refusal → List ℕ
text_of BadSize = codes "a buffer is too small, or a text or an event too large"
text_of TicketOutstanding = codes "a ticket is outstanding"
text_of NoClient = codes "no such client"
text_of ClientKilled = codes "the client is killed"
text_of DeadObject = codes "the object is not live"
text_of Reserved = codes "the display and its delete_id are the engine's"
text_of NoEvent = codes "no such event at that version"
text_of BadSignature = codes "the arguments differ from the signature"
text_of OtherClient = codes "an argument belongs to another client"
text_of DeadArgument = codes "an argument is not live"
text_of NoChild = codes "a new id has no child row"
text_of WrongInterface = codes "an argument is of another interface"
text_of NullArgument = codes "null is not allowed"
text_of NoRow = codes "no such row"
text_of VersionAbove = codes "the version is above the row's"
text_of NoVacancy = codes "no place is vacant"
text_of NoGlobal = codes "no such global"
text_of WrongTicket = codes "not the outstanding ticket"
text_of BreaksLaw = codes "a law is broken"

-- all refusals, by number
abbrev pub refusals : List Refusal
refusals =
    BadSize ∷ TicketOutstanding ∷ NoClient ∷ ClientKilled ∷ DeadObject ∷ Reserved ∷ NoEvent ∷ BadSignature ∷ OtherClient ∷ DeadArgument
    ∷ NoChild ∷ WrongInterface ∷ NullArgument ∷ NoRow ∷ VersionAbove ∷ NoVacancy ∷ NoGlobal ∷ WrongTicket ∷ BreaksLaw ∷ []

-- the numbers are 1 to 19, and no two refusals share one
pub record RefusalLaws : Type 0 where
  pub numbered : map number_of refusals ≡ 1 ∷ 2 ∷ 3 ∷ 4 ∷ 5 ∷ 6 ∷ 7 ∷ 8 ∷ 9 ∷ 10 ∷ 11 ∷ 12 ∷ 13 ∷ 14 ∷ 15 ∷ 16 ∷ 17 ∷ 18 ∷ 19 ∷ []
  pub listed : (r : Refusal) → slice_get refusals (number_of r - 1) ≡ Some r
  pub apart : (r s : Refusal) → number_of r ≡ number_of s → r ≡ s
