-- Each end of a history was told once, and its handle is dead.
use Rattle.std.proofs.Common.{◌≡◌, ◌≤◌, Bool, true, false, cond, ◌&&◌, eqb, ◌⊎◌, List, [], ◌∷◌, length, Some, None, Ok, Err, Option, Result, sym, refl, ap, ◌∙◌, subst, inl, inr, ⊎_elim}
use Rattle.std.proofs.lemmas.Bool.{cases_Bool, cond-true, false≢true, and_from, eq-eqb}
use Rattle.map.specs.declared.fault.InvalidId.{InvalidId}
use Rattle.map.specs.declared.Object.{Object}
use Rattle.map.specs.declared.ObjectData.{ObjectData}
use Rattle.map.specs.Named.{lookup_in}
use Rattle.protocol.specs.Lawful.{Lawful}
use Rattle.protocol.specs.declared.refusal.Refusal.{Refusal}
use Rattle.protocol.specs.declared.refusal.Refusal.TheVariants.{NoClient}
use Rattle.backend.specs.declared.ids.ClientId.{ClientId}
use Rattle.backend.specs.declared.ids.ObjectId.{ObjectId}
use Rattle.backend.specs.declared.client.Client.{Client}
use Rattle.backend.specs.Ids.{same_client, same_object, local_of}
use Rattle.backend.specs.World.{Terms, World, client_at}
use Rattle.backend.specs.Checks.{passing, present, alive, the_object, Owned, the_owned}
use Rattle.backend.specs.Calls.{info_of}
use Rattle.backend.specs.Perform.{looked, told as told_by}
use Rattle.accounts.specs.Histories.{History, Leads, deeds}
use Rattle.accounts.specs.Shown.{entries, ends}
use Rattle.accounts.specs.Accounts.{Has, Apart, of, Looks, acts_of, entries_in}
use Rattle.accounts.specs.Whole.{most}
use Rattle.accounts.proofs.Books.{told, Books}
use Rattle.accounts.proofs.Kept.{same_client_self}
use Rattle.accounts.proofs.Same.{same_object_is}
use Rattle.accounts.proofs.Along.{holds}
use Rattle.accounts.proofs.Shown.{entries_done, ends_done, entries_of, ends_of, has_of, of_has}
use Rattle.accounts.proofs.Agrees.{accounts}
use Rattle.engine_laws.specs.EndsOnce.{Dead, OncePerHandle, EndsAreToldOnce}

-- Handles that are apart client by client are apart.

fewer_apart : (b : Bool) (x : ObjectId) (xs : List ObjectId) → Apart (cond b (x ∷ xs) xs) → Apart xs
fewer_apart true x xs a = a.1
fewer_apart false x xs a = a

all_apart : (xs : List ObjectId) → ((c : ClientId) → Apart (of c xs)) → Apart xs
all_apart [] a = tt
all_apart (x ∷ xs) a =
    let own = subst Apart (cond-true (same_client x.client x.client) (x ∷ of x.client xs) (of x.client xs) (same_client_self x.client)) (a x.client) in
    (λ q. own.0 (has_of x xs q), all_apart xs (λ c. fewer_apart (same_client c x.client) x (of c xs) (a c)))

-- A handle is in a list, or it is not.

same_object_self : (x : ObjectId) → same_object x x ≡ true
same_object_self x =
    and_from (same_client x.client x.client) (eqb x.id x.id && (eqb x.serial x.serial && eqb x.row x.row)) (same_client_self x.client)
    (and_from (eqb x.id x.id) (eqb x.serial x.serial && eqb x.row x.row) (eq-eqb x.id x.id refl)
    (and_from (eqb x.serial x.serial) (eqb x.row x.row) (eq-eqb x.serial x.serial refl) (eq-eqb x.row x.row refl)))

same_or_not : (x y : ObjectId) → (x ≡ y) ⊎ (x ≡ y → ⊥)
same_or_not x y =
    ⊎_elim (λ e. inl (same_object_is x y e))
    (λ e. inr (λ q. false≢true (sym e ∙ (ap (same_object x) (sym q) ∙ same_object_self x)))) (cases_Bool (same_object x y))

has_or_not : (x : ObjectId) (xs : List ObjectId) → Has x xs ⊎ (Has x xs → ⊥)
has_or_not x [] = inr (λ q. q)
has_or_not x (y ∷ ys) =
    ⊎_elim (λ e. inl (inl e)) (λ n. ⊎_elim (λ q. inl (inr q)) (λ m. inr (⊎_elim n m)) (has_or_not x ys)) (same_or_not x y)

-- A look finds an object, or it is refused in one of two ways.

abbrev owned_by : Option Client → ObjectId → Result Owned Refusal
owned_by v x = passing (present v NoClient) (λ (k : Client). passing (the_object k x) (λ (o : Object ObjectData). Ok (record { client = k; object = o })))

module _ (t : Terms) (w : World) (x : ObjectId) where
  by_name : (k : Client) (r : Result (Object ObjectData) InvalidId) → the_owned w x ≡ passing (alive r) (λ (o : Object ObjectData). Ok (record { client = k; object = o })) → Looks t w x ⊎ Dead t w x
  by_name k (Ok o) e = inl (info_of (record { client = k; object = o }), ap (λ (r : Result Owned Refusal). (told_by looked r w info_of).answer) e)
  by_name k (Err i) e = inr (inl (ap (λ (r : Result Owned Refusal). (told_by looked r w info_of).answer) e))

  by_client : (v : Option Client) → the_owned w x ≡ owned_by v x → Looks t w x ⊎ Dead t w x
  by_client None e = inr (inr (ap (λ (r : Result Owned Refusal). (told_by looked r w info_of).answer) e))
  by_client (Some k) e = by_name k (lookup_in k.map (local_of x)) e

  looks_or_dead : Looks t w x ⊎ Dead t w x
  looks_or_dead = by_client (client_at w x.client) refl

-- Along a history.

module _ (t : Terms) (lawful : Lawful t.rows) {h : History} {w : World} (r : Leads t h w) (le : length h ≤ most) where
  books : (c : ClientId) → Books c (length h) (acts_of c (deeds h)) (client_at w c)
  books c = (holds t lawful r le).kept.books c

  entries_here : (c : ClientId) → of c (entries h) ≡ entries_in (acts_of c (deeds h))
  entries_here c = ap (of c) (entries_done t lawful r) ∙ entries_of c (deeds h) (λ d x q. (books d).own x q)

  ends_here : (c : ClientId) → of c (ends h) ≡ told (acts_of c (deeds h))
  ends_here c = ap (of c) (ends_done t lawful r) ∙ ends_of c (deeds h) (λ d x q. (books d).own x ((books d).entered_first x q))

  entered_before : (x : ObjectId) → Has x (ends h) → Has x (entries h)
  entered_before x q =
      of_has x.client x (entries h)
      (subst (Has x) (sym (entries_here x.client)) ((books x.client).entered_first x (subst (Has x) (ends_here x.client) (has_of x (ends h) q))))

  ended_is_dead : (x : ObjectId) → Has x (ends h) → Dead t w x
  ended_is_dead x q = ⊎_elim (λ l. absurd (((accounts t lawful r le).objects.looks_entered x l).1 q)) (λ d. d) (looks_or_dead t w x)

  once_each : OncePerHandle t h w
  once_each = record {
    once = all_apart (ends h) (λ c. ((accounts t lawful r le).clients c).told_once);
    entered = entered_before;
    lives_or_ended = λ x q. ⊎_elim (λ e. inr e) (λ n. inl ((accounts t lawful r le).objects.entered_looks x q n)) (has_or_not x (ends h));
    dead = ended_is_dead;
  }

pub ends_are_told_once : EndsAreToldOnce
ends_are_told_once t lawful h w r le = once_each t lawful r le
