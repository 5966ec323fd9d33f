-- What is known where a check passed.
use Rattle.std.proofs.Common.{◌≡◌, ℕ, Bool, true, false, Some, None, Ok, Err, Option, Result, sym, refl, ap, ◌∙◌, arith}
use Rattle.map.specs.declared.fault.InvalidId.{InvalidId}
use Rattle.map.specs.declared.Object.{Object}
use Rattle.map.specs.declared.ObjectData.{ObjectData}
use Rattle.map.specs.Named.{lookup_in}
use Rattle.laws.proofs.Lookup.{answered}
use Rattle.protocol.specs.declared.refusal.Refusal.{Refusal}
use Rattle.protocol.specs.declared.refusal.Refusal.TheVariants.{NoClient}
use Rattle.backend.specs.declared.ids.ClientId.{ClientId}
use Rattle.backend.specs.declared.ids.ObjectId.{ObjectId}
use Rattle.backend.specs.declared.client.Client.{Client}
use Rattle.backend.specs.Ids.{local_of}
use Rattle.backend.specs.World.{World, client_at}
use Rattle.backend.specs.Checks.{passing, unless, present, the_client, alive, the_object, Owned, the_owned}
use Rattle.accounts.proofs.Books.{Alive}

ok_or : {A E : Type 0} → A → Result A E → A
ok_or d (Ok a) = a
ok_or d (Err e) = d

pub ok_is : {A E : Type 0} (a b : A) → ◌≡◌ {A = Result A E} (Ok a) (Ok b) → a ≡ b
unfolding ok_or
ok_is a b e = ap (ok_or a) e

pub never_ok : {A E : Type 0} (x : E) (a : A) → ◌≡◌ {A = Result A E} (Err x) (Ok a) → ⊥
never_ok x a e = let z : ◌≡◌ {A = ℕ} 0 1 = cc in omega arith

pub passed : {A B : Type 0} (r : Result A Refusal) (f : A → Result B Refusal) (b : B) → passing r f ≡ Ok b → (a : A) × (r ≡ Ok a) × (f a ≡ Ok b)
passed (Ok a) f b e = (a, refl, e)
passed (Err x) f b e = absurd (never_ok x b e)

pub required : (b : Bool) (e : Refusal) (u : Unit {0}) → unless b e ≡ Ok u → b ≡ true
required true e u q = refl
required false e u q = absurd (never_ok e u q)

pub presented : {A : Type 0} (o : Option A) (e : Refusal) (a : A) → present o e ≡ Ok a → o ≡ Some a
presented None e a q = absurd (never_ok e a q)
presented (Some b) e a q = ap (λ (x : _). Some x) (ok_is b a q)

pub the_client_lem : (w : World) (c : ClientId) (k : Client) → the_client w c ≡ Ok k → client_at w c ≡ Some k
the_client_lem w c k e = presented (client_at w c) NoClient k e

alive_is : (r : Result (Object ObjectData) InvalidId) (o : Object ObjectData) → alive r ≡ Ok o → r ≡ Ok o
alive_is (Ok q) o e = ap (λ (x : Object ObjectData). Ok x) (ok_is q o e)
alive_is (Err x) o e = absurd (never_ok _ o e)

pub the_object_lem : (k : Client) (x : ObjectId) (o : Object ObjectData) → the_object k x ≡ Ok o → lookup_in k.map (local_of x) ≡ Ok o
the_object_lem k x o e = alive_is (lookup_in k.map (local_of x)) o e

-- a handle that is looked up names a live object
pub looked_up : (k : Client) (x : ObjectId) (o : Object ObjectData) → lookup_in k.map (local_of x) ≡ Ok o → Alive x (Some k)
looked_up k x o e = let n = answered k.map (local_of x) o e in (o, n.live, n.serial_agrees, n.row_agrees)

pub record HasOwner (w : World) (x : ObjectId) (at : Owned) : Type 0 where
  pub there : client_at w x.client ≡ Some at.client
  pub named : lookup_in at.client.map (local_of x) ≡ Ok at.object

pub the_owned_lem : (w : World) (x : ObjectId) (at : Owned) → the_owned w x ≡ Ok at → HasOwner w x at
the_owned_lem w x at e =
    let p = passed (the_client w x.client) (λ (k : Client). passing (the_object k x) (λ (o : Object ObjectData). Ok (record { client = k; object = o }))) at e in
    let q = passed (the_object p.0 x) (λ (o : Object ObjectData). Ok (record { client = p.0; object = o })) at p.2 in
    let same : record { client = p.0; object = q.0 } ≡ at = ok_is (record { client = p.0; object = q.0 }) at q.2 in
    record {
      there = the_client_lem w x.client p.0 p.1 ∙ ap (λ (y : Owned). Some y.client) same;
      named = ap (λ (y : Owned). lookup_in y.client.map (local_of x)) (sym same) ∙ (the_object_lem p.0 x q.0 q.1 ∙ ap (λ (y : Owned). Ok y.object) same);
    }
