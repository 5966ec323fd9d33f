-- The equalities that the code has by derives are those of the definitions: all parts agree.
use Rattle.std.proofs.Common.{◌≡◌, Bool, true, false, eqb, ◌&&◌, Some, None, Option, refl, ap, ◌∙◌}
use Rattle.map.specs.declared.DataMark.{DataMark}
use Rattle.map.specs.declared.DataMark.TheVariants.{Own, Awaited, Number}
use Rattle.std.specs.contracts.prelude.BoolPartialEq.TheImpl as bool_eq
use Rattle.map.specs.contracts.DataMarkPartialEq.TheImpl as mark_eq
use Rattle.backend.specs.declared.ids.ObjectId.{ObjectId}
use Rattle.backend.specs.declared.ticket.Origin.{Origin}
use Rattle.backend.specs.declared.ticket.Bound.{Bound}
use Rattle.backend.specs.declared.ticket.Making.{Making}
use Rattle.backend.specs.declared.ticket.Outstanding.{Outstanding}
use Rattle.backend.specs.declared.ticket.Outstanding.TheVariants.{Nothing, Plain, Making as MakingOut}
use Rattle.backend.specs.contracts.ticket.OriginPartialEq.TheImpl as origin_eq
use Rattle.backend.specs.contracts.ticket.MakingPartialEq.TheImpl as making_eq
use Rattle.backend.specs.contracts.ticket.OutstandingPartialEq.TheImpl as out_eq
use Rattle.backend.specs.Ids.{same_client, same_object}
use Rattle.backend.specs.Tickets.{same_mark, same_bool, same_origin, same_bound, making_of, same_making, same_ticket}

marks : (a b : DataMark) → mark_eq.ghosts.eq a b ≡ same_mark a b
marks Own Own = refl
marks Own Awaited = refl
marks Own (Number n) = refl
marks Awaited Own = refl
marks Awaited Awaited = refl
marks Awaited (Number n) = refl
marks (Number m) Own = refl
marks (Number m) Awaited = refl
marks (Number m) (Number n) = refl

bools : (a b : Bool) → bool_eq.ghosts.eq a b ≡ same_bool a b
bools true true = refl
bools true false = refl
bools false true = refl
bools false false = refl

origins : (a b : Origin) → origin_eq.ghosts.eq a b ≡ same_origin a b
origins a b =
    ap (λ (m : Bool). same_client a.client b.client && (same_object a.sender b.sender && (m && (eqb a.opcode b.opcode && bool_eq.ghosts.eq a.destructor b.destructor)))) (marks a.«data» b.«data»)
    ∙ ap (λ (d : Bool). same_client a.client b.client && (same_object a.sender b.sender && (same_mark a.«data» b.«data» && (eqb a.opcode b.opcode && d)))) (bools a.destructor b.destructor)

makings_of : (o : Origin) (x : ObjectId) (u : Option Bound) (p : Origin) (y : ObjectId) (v : Option Bound)
    → making_eq.ghosts.eq (making_of o x u) (making_of p y v) ≡ same_making (making_of o x u) (making_of p y v)
makings_of o x None p y None = ap (λ (e : Bool). e && (same_object x y && true)) (origins o p)
makings_of o x None p y (Some c) = ap (λ (e : Bool). e && (same_object x y && false)) (origins o p)
makings_of o x (Some b) p y None = ap (λ (e : Bool). e && (same_object x y && false)) (origins o p)
makings_of o x (Some b) p y (Some c) = ap (λ (e : Bool). e && (same_object x y && same_bound (Some b) (Some c))) (origins o p)

makings : (a b : Making) → making_eq.ghosts.eq a b ≡ same_making a b
makings a b = makings_of a.origin a.child a.bound b.origin b.child b.bound

-- what is outstanding is the same
pub tickets : (a b : Outstanding) → out_eq.ghosts.eq a b ≡ same_ticket a b
tickets Nothing Nothing = refl
tickets Nothing (Plain b) = refl
tickets Nothing (MakingOut b) = refl
tickets (Plain a) Nothing = refl
tickets (Plain a) (Plain b) = origins a b
tickets (Plain a) (MakingOut b) = refl
tickets (MakingOut a) Nothing = refl
tickets (MakingOut a) (Plain b) = refl
tickets (MakingOut a) (MakingOut b) = makings a b
