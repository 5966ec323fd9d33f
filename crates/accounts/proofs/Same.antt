-- A ticket that passes the test is, field for field, the one outstanding.
use Rattle.std.proofs.Common.{◌≡◌, ℕ, Bool, true, false, ◌&&◌, eqb, Some, None, Option, refl, ap}
use Rattle.std.proofs.lemmas.Bool.{and_parts, eqb-true, false≢true}
use Rattle.map.specs.declared.DataMark.{DataMark}
use Rattle.map.specs.declared.DataMark.TheVariants.{Own, Awaited, Number}
use Rattle.backend.specs.declared.ids.ObjectId.{ObjectId}
use Rattle.backend.specs.declared.ids.GlobalId.{GlobalId}
use Rattle.backend.specs.declared.ticket.Bound.{Bound}
use Rattle.backend.specs.declared.ticket.Origin.{Origin}
use Rattle.backend.specs.declared.ticket.Outstanding.{Outstanding}
use Rattle.backend.specs.declared.ticket.Outstanding.TheVariants.{Nothing, Plain, Making as MakingOut}
use Rattle.backend.specs.Ids.{same_client, same_object, same_global}
use Rattle.backend.specs.Tickets.{same_mark, same_bool, same_origin, same_bound, same_ticket}
use Rattle.accounts.proofs.Books.{same_handle}
use Rattle.accounts.proofs.Kept.{same_client_is}

pub same_object_is : (x y : ObjectId) → same_object x y ≡ true → x ≡ y
same_object_is x y t =
    let p = and_parts (same_client x.client y.client) (eqb x.id y.id && (eqb x.serial y.serial && eqb x.row y.row)) t in
    let q = and_parts (eqb x.id y.id) (eqb x.serial y.serial && eqb x.row y.row) p.1 in
    let r = and_parts (eqb x.serial y.serial) (eqb x.row y.row) q.1 in
    same_handle x y (same_client_is x.client y.client p.0) (eqb-true x.id y.id q.0) (eqb-true x.serial y.serial r.0) (eqb-true x.row y.row r.1)

same_mark_is : (a b : DataMark) → same_mark a b ≡ true → a ≡ b
same_mark_is Own Own t = refl
same_mark_is Own Awaited t = absurd (false≢true t)
same_mark_is Own (Number n) t = absurd (false≢true t)
same_mark_is Awaited Own t = absurd (false≢true t)
same_mark_is Awaited Awaited t = refl
same_mark_is Awaited (Number n) t = absurd (false≢true t)
same_mark_is (Number m) Own t = absurd (false≢true t)
same_mark_is (Number m) Awaited t = absurd (false≢true t)
same_mark_is (Number m) (Number n) t = ap (λ (i : ℕ). Number i) (eqb-true m n t)

same_bool_is : (a b : Bool) → same_bool a b ≡ true → a ≡ b
same_bool_is true true t = refl
same_bool_is true false t = absurd (false≢true t)
same_bool_is false true t = absurd (false≢true t)
same_bool_is false false t = refl

pub same_origin_is : (a b : Origin) → same_origin a b ≡ true → a ≡ b
same_origin_is a b t =
    let p = and_parts (same_client a.client b.client) _ t in
    let q = and_parts (same_object a.sender b.sender) _ p.1 in
    let r = and_parts (same_mark a.«data» b.«data») _ q.1 in
    let s = and_parts (eqb a.opcode b.opcode) _ r.1 in
    let c = same_client_is a.client b.client p.0 in
    let x = same_object_is a.sender b.sender q.0 in
    let m = same_mark_is a.«data» b.«data» r.0 in
    let o = eqb-true a.opcode b.opcode s.0 in
    let d = same_bool_is a.destructor b.destructor s.1 in
    λ i. record { client = c i; sender = x i; «data» = m i; opcode = o i; destructor = d i }

same_global_is : (a b : GlobalId) → same_global a b ≡ true → a ≡ b
same_global_is a b t =
    let p = and_parts (eqb a.name b.name) (eqb a.serial b.serial) t in
    let n = eqb-true a.name b.name p.0 in
    let s = eqb-true a.serial b.serial p.1 in
    λ i. record { name = n i; serial = s i }

same_bound_is : (a b : Option Bound) → same_bound a b ≡ true → a ≡ b
same_bound_is None None t = refl
same_bound_is None (Some b) t = absurd (false≢true t)
same_bound_is (Some a) None t = absurd (false≢true t)
same_bound_is (Some a) (Some b) t =
    let p = and_parts (same_global a.global b.global) (eqb a.handler b.handler) t in
    let g = same_global_is a.global b.global p.0 in
    let h = eqb-true a.handler b.handler p.1 in
    λ i. Some (record { global = g i; handler = h i })

pub same_ticket_is : (a b : Outstanding) → same_ticket a b ≡ true → a ≡ b
same_ticket_is Nothing Nothing t = refl
same_ticket_is Nothing (Plain b) t = absurd (false≢true t)
same_ticket_is Nothing (MakingOut b) t = absurd (false≢true t)
same_ticket_is (Plain a) Nothing t = absurd (false≢true t)
same_ticket_is (Plain a) (Plain b) t = ap (λ (x : Origin). Plain x) (same_origin_is a b t)
same_ticket_is (Plain a) (MakingOut b) t = absurd (false≢true t)
same_ticket_is (MakingOut a) Nothing t = absurd (false≢true t)
same_ticket_is (MakingOut a) (Plain b) t = absurd (false≢true t)
same_ticket_is (MakingOut a) (MakingOut b) t =
    let p = and_parts (same_origin a.origin b.origin) _ t in
    let q = and_parts (same_object a.child b.child) (same_bound a.bound b.bound) p.1 in
    let e = same_origin_is a.origin b.origin p.0 in
    let f = same_object_is a.child b.child q.0 in
    let g = same_bound_is a.bound b.bound q.1 in
    λ i. MakingOut (record { origin = e i; child = f i; bound = g i })
