-- Announcements go by rising names.
use Rattle.std.proofs.Common.{◌≡◌, ℕ, suc, ◌+◌, ◌-◌, ◌<◌, ◌≤◌, cond, not, ◌&&◌, eqb, List, [], ◌∷◌, Some, None, Option, sym, ap, ◌∙◌, subst, ⊎_elim, arith}
use Rattle.std.proofs.lemmas.Bool.{cond-true, cond-false, cases_Bool, cases_eq, cases_lt, ne_eqb}
use Rattle.places.specs.Places.{at}
use Rattle.backend.specs.declared.ids.ObjectId.{ObjectId}
use Rattle.backend.specs.declared.client.Client.{Client}
use Rattle.backend.specs.declared.registry.Global.{Global}
use Rattle.backend.specs.Registries.{global_named, visible}
use Rattle.backend.specs.World.{Terms}
use Rattle.engine_laws.specs.Announced.{announcements, shown_of, Announces, no_more, goes_on, AnnouncementsGoByName}

module _ (t : Terms) (x : ObjectId) (k : Client) (globals : List (Option Global)) where
  -- nothing is shown under a name
  abbrev Hidden : ℕ → Type 0
  Hidden name = shown_of t x k name (global_named globals name) ≡ None

  -- what is left of the globals begins under a name
  abbrev Rest : ℕ → List (Option Global) → Type 0
  Rest n gs = (i : ℕ) → global_named globals (n + i) ≡ at gs i

  rest_later : (n : ℕ) (o : Option Global) (gs : List (Option Global)) → Rest n (o ∷ gs) → Rest (n + 1) gs
  rest_later n o gs r i = ap (global_named globals) (let z : n + 1 + i ≡ n + suc i = omega arith in z) ∙ r (suc i)

  first : (n : ℕ) (o : Option Global) (gs : List (Option Global)) → Rest n (o ∷ gs) → global_named globals n ≡ o
  first n o gs r = ap (global_named globals) (let z : n ≡ n + 0 = omega arith in z) ∙ r 0

  -- hidden up to a name, and under that too
  one_more : (start n : ℕ) → ((j : ℕ) → start ≤ j → j < n → Hidden j) → Hidden n → (j : ℕ) → start ≤ j → j < n + 1 → Hidden j
  one_more start n h z j a b = ⊎_elim (λ e. subst Hidden (sym e) z) (λ ne. h j a (omega (arith, ne))) (cases_eq j n)

  by_name : (start n : ℕ) (gs : List (Option Global)) → start ≤ n → ((j : ℕ) → start ≤ j → j < n → Hidden j) → Rest n gs → Announces t x k globals start (announcements t x k n gs)
  by_name start n [] le h r =
      no_more (λ name a. ⊎_elim (λ lt. h name a lt)
      (λ ge. ap (shown_of t x k name) (ap (global_named globals) (let z : name ≡ n + (name - n) = omega arith in z) ∙ r (name - n))) (cases_lt name n))
  by_name start n (None ∷ gs) le h r =
      by_name start (n + 1) gs (omega arith) (one_more start n h (ap (shown_of t x k n) (first n None gs r))) (rest_later n None gs r)
  by_name start n (Some g ∷ gs) le h r =
      ⊎_elim
      (λ e. subst (Announces t x k globals start) (sym (cond-true (not g.disabled && visible t x.client k n g) _ _ e))
      (goes_on n g le h (here ∙ cond-true (not g.disabled && visible t x.client k n g) (Some g) None e)
      (by_name (n + 1) (n + 1) gs (omega arith) (λ j a b. absurd (omega arith)) (rest_later n (Some g) gs r))))
      (λ e. subst (Announces t x k globals start) (sym (cond-false (not g.disabled && visible t x.client k n g) _ _ e))
      (by_name start (n + 1) gs (omega arith) (one_more start n h (here ∙ cond-false (not g.disabled && visible t x.client k n g) (Some g) None e)) (rest_later n (Some g) gs r)))
      (cases_Bool (not g.disabled && visible t x.client k n g))
    where
      here : shown_of t x k n (global_named globals n) ≡ cond (not g.disabled && visible t x.client k n g) (Some g) None
      here = ap (shown_of t x k n) (first n (Some g) gs r)

  from_one : Rest 1 globals
  from_one i = cond-false (eqb (1 + i) 0) None _ (ne_eqb (1 + i) 0 (λ q. omega (arith, q))) ∙ ap (at globals) (let z : 1 + i - 1 ≡ i = omega arith in z)

pub announcements_go_by_name : AnnouncementsGoByName
announcements_go_by_name t x k globals = by_name t x k globals 1 1 globals (omega arith) (λ j a b. absurd (omega arith)) (from_one t x k globals)
