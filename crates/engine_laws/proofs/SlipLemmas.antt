-- Why the slips are ruled out.
use Rattle.std.proofs.Common.{◌≡◌, ℕ, Bool, true, false, cond, List, Some, None, Ok, Err, Option, Result, sym, refl, ap, ◌∙◌, arith}
use Rattle.map.specs.declared.fault.MapFault.{MapFault}
use Rattle.map.specs.Map.{insert_answer}
use Rattle.laws.proofs.Kept.{length_laws}
use Rattle.map.specs.declared.ObjectData.{ObjectData}
use Rattle.protocol.specs.declared.argument.Argument.{Argument}
use Rattle.protocol.specs.declared.argument.ArgumentType.TheVariants as kind
use Rattle.protocol.specs.declared.refusal.Refusal.{Refusal}
use Rattle.message.specs.declared.part.Part.{Part}
use Rattle.backend.specs.declared.ids.ObjectId.{ObjectId}
use Rattle.backend.specs.declared.answers.SettledMaking.{SettledMaking}
use Rattle.backend.specs.declared.ticket.Origin.{Origin}
use Rattle.backend.specs.declared.ticket.Outstanding.TheVariants as out
use Rattle.backend.specs.Tickets.{PlainTicket, MakingTicket, same_ticket}
use Rattle.backend.specs.World.{Terms, World}
use Rattle.backend.specs.Acts.{Seat, from}
use Rattle.backend.specs.Arguments.{Asked, argument, entering, new_id_argument}
use Rattle.backend.specs.Checks.{Owned, the_owned}
use Rattle.backend.specs.Calls.{info_of, living, living_of, sender_ends, settle_sender, plain_act, making_act, done}
use Rattle.backend.specs.Reading.{as_new_id}
use Rattle.backend.specs.Perform.{settle_plain, looked, settled_plain, settled_making, told, returned, settled_by, perform}
use Rattle.engine_laws.specs.Slips.{SlipsAreRuledOut}

refused : (w : World) (x : ObjectId) (e : Refusal) (r : Result Owned Refusal) → the_owned w x ≡ r → (told looked r w info_of).answer ≡ looked (Err e) → living w x ≡ None
refused w x e (Ok at) q a = let z : ◌≡◌ {A = ℕ} 0 1 = cc in absurd (omega arith)
refused w x e (Err f) q a = ap living_of q

ends_nothing : (o : Origin) (w : World) → living w o.sender ≡ None → (settle_sender o (from w)).value ≡ None
ends_nothing o w q = go o.destructor
  where
    go : (b : Bool) → (cond b (sender_ends o (living w o.sender) (from w)) (done None (from w))).value ≡ None
    go true = ap (λ (v : Option Owned). (sender_ends o v (from w)).value) q
    go false = refl

plain : (t : Terms) (w : World) (x : PlainTicket) → living w x.request.sender ≡ None → same_ticket w.engine.outstanding (out.Plain x.request) ≡ true
    → (perform t (settle_plain x) w).answer ≡ settled_plain (Ok None)
plain t w x q e =
    ap (λ (b : Bool). (cond b (settled_by settled_plain x w (plain_act x.request w)) (returned settled_plain x w)).answer) e
    ∙ ap (λ (v : _). settled_plain (Ok v)) (ends_nothing x.request w q)

making : (t : Terms) (w : World) (x : MakingTicket) (d : ℕ) (s : SettledMaking) (b : Bool) → living w x.request.origin.sender ≡ None
    → (cond b (settled_by settled_making x w (making_act x.request.origin x.request.child d w)) (returned settled_making x w)).answer ≡ settled_making (Ok s) → s.ended ≡ None
making t w x d s true q e =
    let same : (making_act x.request.origin x.request.child d w).value ≡ s = cc in
    sym (ap (λ (v : SettledMaking). v.ended) same) ∙ ends_nothing x.request.origin w q
making t w x d s false q e = let z : ◌≡◌ {A = ℕ} 0 1 = cc in absurd (omega arith)

entered : (q : Asked) (i id : ℕ) (r : Result (Unit {0}) MapFault) (child : Option ObjectId) (wanted : List ℕ) (s : Seat) → (entering q i id r child wanted s).wanted ≡ wanted
entered q i id (Ok u) child wanted s = refl
entered q i id (Err f) child wanted s = refl

new_id_rows : (q : Asked) (i : ℕ) (v : Option ℕ) (child : Option ObjectId) (wanted : List ℕ) (s : Seat) → (new_id_argument q i v child wanted s).wanted ≡ wanted
new_id_rows q i None child wanted s = refl
new_id_rows q i (Some id) child wanted s = entered q i id (insert_answer s.client.map id) child wanted s

rows : (t : Terms) (q : Asked) (i : ℕ) (a : Argument ℕ Part) (child : Option ObjectId) (wanted : List ℕ) (s : Seat) → (argument t q i kind.NewId a child wanted s).wanted ≡ wanted
rows t q i a child wanted s = new_id_rows q i (as_new_id a) child wanted s

pub ruled_out : SlipsAreRuledOut
ruled_out = record {
  plain_ends_nothing = λ t w x e a same. plain t w x (refused w x.request.sender e (the_owned w x.request.sender) refl a) same;
  making_ends_nothing = λ t w x d e s a q.
      making t w x d s (same_ticket w.engine.outstanding (out.Making x.request)) (refused w x.request.origin.sender e (the_owned w x.request.origin.sender) refl a) q;
  rows_stay = rows;
  lengths_stay = (length_laws ObjectData).remove;
}
