-- Tickets: what is handed out, and when a ticket is the one outstanding.
use Rattle.std.specs.Prelude.{Bool, true, false, cond, not, ◌&&◌, Some, None, Ok, Err, Option, Result, ◌==◌}
use Rattle.map.specs.declared.DataMark.{DataMark}
use Rattle.map.specs.declared.DataMark.TheVariants.{Own, Awaited, Number}
use Rattle.backend.specs.declared.ids.ObjectId.{ObjectId}
use Rattle.backend.specs.declared.ticket.Origin.{Origin}
use Rattle.backend.specs.declared.ticket.Bound.{Bound}
use Rattle.backend.specs.declared.ticket.Outstanding.{Outstanding}
use Rattle.backend.specs.declared.ticket.Making.{Making}
use Rattle.backend.specs.declared.ticket.Outstanding.TheVariants.{Nothing, Plain, Making as MakingOut}
use Rattle.backend.specs.declared.ticket.Ticket.{Ticket}
use Rattle.backend.specs.Ids.{same_client, same_object, same_global}

-- the two kinds of tickets
abbrev pub PlainTicket : Type 0
PlainTicket = Ticket Origin

-- a ticket of a request that makes an object
abbrev pub MakingTicket : Type 0
MakingTicket = Ticket Making

-- a ticket that is not settled yet
abbrev pub unsettled : {R : Type 0} → R → Ticket R
unsettled r = record { request = r; spent = false }

-- what a request that makes an object has besides its origin
abbrev pub making_of : Origin → ObjectId → Option Bound → Making
making_of o child bound = record { origin = o; child = child; bound = bound }

-- the same data mark
abbrev pub same_mark : DataMark → DataMark → Bool
same_mark Own Own = true
same_mark Own Awaited = false
same_mark Own (Number n) = false
same_mark Awaited Own = false
same_mark Awaited Awaited = true
same_mark Awaited (Number n) = false
same_mark (Number m) Own = false
same_mark (Number m) Awaited = false
same_mark (Number m) (Number n) = m == n

-- the same truth value
abbrev pub same_bool : Bool → Bool → Bool
same_bool true b = b
same_bool false b = not b

-- the same origin, field for field
abbrev pub same_origin : Origin → Origin → Bool
same_origin a b =
    same_client a.client b.client
    && (same_object a.sender b.sender && (same_mark a.«data» b.«data» && (a.opcode == b.opcode && same_bool a.destructor b.destructor)))

-- the same bound global, or none in both
abbrev pub same_bound : Option Bound → Option Bound → Bool
same_bound None None = true
same_bound None (Some b) = false
same_bound (Some a) None = false
same_bound (Some a) (Some b) = same_global a.global b.global && a.handler == b.handler

-- the same request that makes an object, field for field
abbrev pub same_making : Making → Making → Bool
same_making a b = same_origin a.origin b.origin && (same_object a.child b.child && same_bound a.bound b.bound)

-- the same ticket is outstanding, or none in both
abbrev pub same_ticket : Outstanding → Outstanding → Bool
same_ticket Nothing Nothing = true
same_ticket Nothing (Plain b) = false
same_ticket Nothing (MakingOut b) = false
same_ticket (Plain a) Nothing = false
same_ticket (Plain a) (Plain b) = same_origin a b
same_ticket (Plain a) (MakingOut b) = false
same_ticket (MakingOut a) Nothing = false
same_ticket (MakingOut a) (Plain b) = false
same_ticket (MakingOut a) (MakingOut b) = same_making a b

-- a ticket, of which this would be outstanding, is taken back where it is the one, and else it comes back
abbrev pub taken_answer : {R : Type 0} → Outstanding → Outstanding → Ticket R → Result R (Ticket R)
taken_answer out this t = cond (same_ticket out this) (Ok t.request) (Err t)

-- and then nothing is outstanding
abbrev pub taken_after : Outstanding → Outstanding → Outstanding
taken_after out this = cond (same_ticket out this) Nothing out
