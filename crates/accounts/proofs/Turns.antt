-- The turns of one number: entries and delete_id events.
use Rattle.std.proofs.Common.{◌≡◌, ℕ, ◌<◌, ◌≤◌, Bool, true, false, cond, eqb, ◌⊎◌, List, ◌∷◌, Some, None, Option, sym, refl, ap, ◌∙◌, subst, ⊎_elim, arith}
use Rattle.std.proofs.lemmas.Bool.{cases_eq, false≢true, eq-eqb, ne_eqb, cond-true, cond-false}
use Rattle.map.specs.declared.Object.{Object}
use Rattle.map.specs.declared.ObjectData.{ObjectData}
use Rattle.map.specs.declared.ObjectMap.{ObjectMap}
use Rattle.map.specs.Map.{limit, find_in}
use Rattle.backend.specs.declared.client.Client.{Client}
use Rattle.backend.specs.World.{is_live}
use Rattle.backend.specs.Acts.{Act}
use Rattle.accounts.specs.Accounts.{Unrefused, Side, entry, delete, delete_side, sides, Alternates, enters, deleted}
use Rattle.accounts.proofs.Books.{Entry, Gone, Marked}

-- what may come next for a number: a delete_id where it is live; an entry where it is not, unless the client is killed
abbrev pub Stands : Option (Object ObjectData) → Bool → List Side → Type 0
Stands (Some o) l s = Alternates s delete
Stands None true s = Alternates s entry
Stands None false s = (following : Side) × Alternates s following

abbrev pub Standing : Option Client → ℕ → List Side → Type 0
Standing None i s = (following : Side) × Alternates s following
Standing (Some k) i s = Stands (find_in k.map i) (is_live k.state) s

-- the turns of every number of the client's half
abbrev pub Turns : List Act → Option Client → Type 0
Turns as' v = Unrefused as' → (i : ℕ) → i < limit → Standing v i (sides i as')

pub stands_so : (o : Option (Object ObjectData)) (l : Bool) (s : List Side) → Stands o l s → (following : Side) × Alternates s following
stands_so (Some o) l s a = (delete, a)
stands_so None true s a = (entry, a)
stands_so None false s a = a

pub stands_less : (o : Option (Object ObjectData)) (l m : Bool) (s : List Side) → (m ≡ true → l ≡ true) → Stands o l s → Stands o m s
stands_less (Some o) l m s f a = a
stands_less None true true s f a = a
stands_less None true false s f a = (entry, a)
stands_less None false true s f a = absurd (false≢true (f refl))
stands_less None false false s f a = a

stands_vacant : (l : Bool) (s : List Side) → Alternates s entry → Stands None l s
stands_vacant true s a = a
stands_vacant false s a = (entry, a)

pub moved : {o p : Option (Object ObjectData)} {s t : List Side} (l : Bool) → p ≡ o → t ≡ s → Stands o l s → Stands p l t
moved {o} {p} {s} {t} l e g x = subst (λ (q : Option (Object ObjectData)). Stands q l t) (sym e) (subst (λ (q : List Side). Stands o l q) (sym g) x)

module _ (m p : ObjectMap ObjectData) (l : Bool) (id i : ℕ) (s : List Side) (below : i < limit) where
  -- an entry, of a number of the server's half or of a client that is not killed
  pub enter_turn : (o : Object ObjectData) → Entry m id o p → (l ≡ true) ⊎ (limit ≤ id)
      → Stands (find_in m i) l s → Stands (find_in p i) l (cond (eqb id i) (entry ∷ s) s)
  enter_turn o e ok a =
      ⊎_elim
      (λ q. ⊎_elim
      (λ t. moved l (ap (find_in p) q ∙ e.there) (cond-true (eqb id i) (entry ∷ s) s (eq-eqb id i (sym q)))
      (enters (subst (λ (b : Bool). Stands None b s) t (moved {p = None} l (sym (ap (find_in m) q ∙ e.vacant)) refl a))))
      (λ le. absurd (omega arith)) ok)
      (λ q. moved l (e.others i q) (cond-false (eqb id i) (entry ∷ s) s (ne_eqb id i (λ r. q (sym r)))) a)
      (cases_eq i id)

  -- an end with its delete_id
  pub end_turn : (o : Object ObjectData) → find_in m id ≡ Some o → Gone m id p
      → Stands (find_in m i) l s → Stands (find_in p i) l (delete_side i (Some id) s)
  end_turn o lives e a =
      ⊎_elim
      (λ q. moved l (ap (find_in p) q ∙ e.none) (cond-true (eqb id i) (delete ∷ s) s (eq-eqb id i (sym q)))
      (stands_vacant l (delete ∷ s) (deleted (moved {p = Some o} l (sym (ap (find_in m) q ∙ lives)) refl a))))
      (λ q. moved l (e.others i q) (cond-false (eqb id i) (delete ∷ s) s (ne_eqb id i (λ r. q (sym r)))) a)
      (cases_eq i id)

  -- an end without one: of a number of the server's half, or of a killed client
  pub remove_turn : Gone m id p → (l ≡ false) ⊎ (limit ≤ id) → Stands (find_in m i) l s → Stands (find_in p i) l s
  remove_turn e ok a =
      ⊎_elim
      (λ q. ⊎_elim
      (λ f. moved l (ap (find_in p) q ∙ e.none) refl (subst (λ (b : Bool). Stands None b s) (sym f) (stands_so (find_in m i) l s a)))
      (λ le. absurd (omega arith)) ok)
      (λ q. moved l (e.others i q) refl a)
      (cases_eq i id)

  pub mark_turn : (o q : Object ObjectData) → Marked m id o q p → Stands (find_in m i) l s → Stands (find_in p i) l s
  mark_turn o q e a =
      ⊎_elim
      (λ r. moved l (ap (find_in p) r ∙ e.there) refl (moved {p = Some o} l (sym (ap (find_in m) r ∙ e.was)) refl a))
      (λ r. moved l (e.others i r) refl a)
      (cases_eq i id)
