-- A call under way: what it did at one client after the other keeps the accounts.
use Rattle.std.proofs.Common.{◌≡◌, ℕ, ◌≤◌, false, ◌≢◌, ◌⊎◌, List, [], ◌∷◌, ◌++◌, Some, None, Option, sym, refl, ap, subst, arith}
use Rattle.std.proofs.lemmas.Bool.{cond_both}
use Rattle.map.specs.declared.DataMark.{DataMark}
use Rattle.backend.specs.declared.ids.ClientId.{ClientId}
use Rattle.backend.specs.declared.ids.ObjectId.{ObjectId}
use Rattle.backend.specs.declared.client.Client.{Client}
use Rattle.backend.specs.declared.registry.Registry.{Registry}
use Rattle.backend.specs.declared.ticket.Outstanding.{Outstanding}
use Rattle.backend.specs.Ids.{same_object}
use Rattle.backend.specs.World.{is_live, client_at, with_registry}
use Rattle.backend.specs.Acts.{Act, Deed, Seat, Run, in_world, seat, tagged, seated, resumed, end}
use Rattle.backend.specs.Registries.{without, off_roll, visit, along_roll}
use Rattle.backend.specs.Calls.{end_in}
use Rattle.accounts.specs.Accounts.{acts_of}
use Rattle.accounts.proofs.Books.{Alive}
use Rattle.accounts.proofs.Seats.{Good, Waits, end_good}
use Rattle.accounts.proofs.Kept.{Roll, Kept, apart_from, seat_good, resumed_kept}

pub deeds_assoc : (xs ys zs : List Deed) → (xs ++ ys) ++ zs ≡ xs ++ (ys ++ zs)
deeds_assoc [] ys zs = refl
deeds_assoc (x ∷ xs) ys zs = ap (λ (r : List Deed). x ∷ r) (deeds_assoc xs ys zs)

-- on top of what was done before the call; the ticket that is outstanding stays
pub record On (v : Option ObjectId) (n : ℕ) (out : Outstanding) (ds : List Deed) (r : Run) : Type 0 where
  pub kept : Kept v n (r.deeds ++ ds) r.world
  pub same : r.world.engine.outstanding ≡ out

-- The roll without one.

roll_end_lem : (xs : List (Option ObjectId)) → Roll xs → Roll (xs ++ None ∷ [])
roll_end_lem [] r = tt
roll_end_lem (None ∷ xs) r = roll_end_lem xs r
roll_end_lem (Some x ∷ xs) r = (r.0, roll_end_lem xs r.1)

pub roll_without : (x : ObjectId) (xs : List (Option ObjectId)) → Roll xs → Roll (without x xs)
roll_without x [] r = tt
roll_without x (None ∷ xs) r = roll_without x xs r
roll_without x (Some y ∷ xs) r = cond_both (same_object x y) _ _ Roll (λ _. roll_end_lem xs r.1) (λ _. (r.0, roll_without x xs r.1))

module _ {v : Option ObjectId} {n : ℕ} {out : Outstanding} {ds : List Deed} where
  -- what was done at one client
  pub resume_on : (r : Run) → On v n out ds r → (c : ClientId) (k : Client) → client_at r.world c ≡ Some k → (m : ℕ) → n ≤ m
      → (u : Option ObjectId) → ((d : ClientId) (q : Client) → d ≢ c → Waits v d q → Waits u d q)
      → (s : Seat) → Good u c m (acts_of c (r.deeds ++ ds)) s → On u m out ds (resumed c s r)
  resume_on r on c k there m le u carry s g = record {
    kept = subst (λ (es : List Deed). Kept u m es (seated c s r.world)) (sym (deeds_assoc (tagged c s.acts) r.deeds ds)) (resumed_kept on.kept c k there m le u carry s g);
    same = on.same;
  }

  pub seat_on : (r : Run) → On v n out ds r → (c : ClientId) (k : Client) → client_at r.world c ≡ Some k → Good v c n (acts_of c (r.deeds ++ ds)) (seat c k r)
  seat_on r on c k there = seat_good on.kept c k there (r.world.lines c.place)

  -- the same, where what waits for data stays
  pub act_on : (r : Run) → On v n out ds r → (c : ClientId) (k : Client) → client_at r.world c ≡ Some k → (s : Seat) → Good v c n (acts_of c (r.deeds ++ ds)) s → On v n out ds (resumed c s r)
  act_on r on c k there s g = resume_on r on c k there n (omega arith) v (λ d q ne w. w) s g

  pub off_roll_on : (r : Run) (x : ObjectId) → On v n out ds r → On v n out ds (in_world (off_roll x) r)
  off_roll_on r x on = record {
    kept = apart_from r.world.lines _ r.world.engine.outstanding (roll_without x r.world.engine.registry.roll on.kept.roll) on.kept.sender on.kept;
    same = on.same;
  }

  -- another registry, with the same roll
  pub registry_on : (r : Run) (g : Registry) → g.roll ≡ r.world.engine.registry.roll → On v n out ds r → On v n out ds (in_world (with_registry g) r)
  registry_on r g e on = record {
    kept = apart_from r.world.lines g r.world.engine.outstanding (subst Roll (sym e) on.kept.roll) on.kept.sender on.kept;
    same = on.same;
  }

  pub end_on : (x : ObjectId) (mark : DataMark) (k : Client) (r : Run) → On v n out ds r → client_at r.world x.client ≡ Some k → Alive x (Some k)
      → (is_live k.state ≡ false) ⊎ (x.id ≢ 1) → On v n out ds (end_in x mark k r)
  end_on x mark k r on there lives spared =
      off_roll_on (resumed x.client (end x mark (seat x.client k r)) r) x
      (act_on r on x.client k there (end x mark (seat x.client k r)) (end_good x mark refl (seat x.client k r) (seat_on r on x.client k there) lives spared))

  visit_on : (c : ClientId) (f : Seat → Seat) → ((before : List Act) (s : Seat) → Good v c n before s → Good v c n before (f s))
      → (r : Run) → On v n out ds r → (k : Option Client) → client_at r.world c ≡ k → On v n out ds (visit c f k r)
  visit_on c f fine r on None e = on
  visit_on c f fine r on (Some k) e = act_on r on c k e (f (seat c k r)) (fine (acts_of c (r.deeds ++ ds)) (seat c k r) (seat_on r on c k e))

  -- along the roll
  pub along_on : (f : ObjectId → Seat → Seat) → ((x : ObjectId) → x.id ≢ 1 → (c : ClientId) (before : List Act) (s : Seat) → Good v c n before s → Good v c n before (f x s))
      → (xs : List (Option ObjectId)) → Roll xs → (r : Run) → On v n out ds r → On v n out ds (along_roll f xs r)
  along_on f fine [] on_roll r on = on
  along_on f fine (None ∷ xs) on_roll r on = along_on f fine xs on_roll r on
  along_on f fine (Some x ∷ xs) on_roll r on =
      along_on f fine xs on_roll.1 (visit x.client (f x) (client_at r.world x.client) r)
      (visit_on x.client (f x) (fine x on_roll.0 x.client) r on (client_at r.world x.client) refl)
