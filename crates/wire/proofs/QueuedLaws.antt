-- What goes into a queue wire comes out again.
use Rattle.std.proofs.Common.{◌≡◌, ◌≤◌, true, List, [], ◌∷◌, map, length, refl, arith}
use Rattle.protocol.specs.Kinds.{kind_of, same_type, agree}
use Rattle.protocol.specs.declared.argument.Argument.{Argument}
use Rattle.message.specs.Meaning.{said}
use Rattle.wire.specs.declared.queued.Request.{Request}
use Rattle.wire.specs.Queued.{well_formed}
use Rattle.wire.specs.QueuedLaws.{QueuedLaws, own_signature}

same_kind : {Id Bytes : Type 0} (a : Argument Id Bytes) → same_type (kind_of a) (kind_of a) ≡ true
same_kind a = grind arith

own_kinds : {Id Bytes : Type 0} (as' : List (Argument Id Bytes)) → agree (map kind_of as') as' ≡ true
own_kinds [] = refl
own_kinds (a ∷ as') = grind (arith, same_kind a, own_kinds as')

own_form : (r : Request) → length r.body.now ≤ 4096 → length (said r.message) ≤ 8 → well_formed r (own_signature r) ≡ true
own_form r b a = grind (arith, own_kinds (said r.message))

pub queued_laws : QueuedLaws
queued_laws = record {
  put_comes_out = λ r l size none large b a. grind (arith, own_form r b a);
  put_is_last = λ r l. refl;
  malformed_is = λ r rest l size signature large first bad. grind arith;
  malformed_only = λ r rest l size signature first e. grind arith;
  limit_is_room = λ room. (refl, refl);
}
