-- A sync's callback at the next id of the client's half: the map after it entered and ended.
use Rattle.std.proofs.Common.{◌≡◌, ℕ, ◌+◌, ◌-◌, ◌≤◌, true, false, eqb, ltb, length, is_some, None, Ok, Result, refl, ap, ◌∙◌, arith}
use Rattle.std.proofs.lemmas.Bool.{cond-true, cond-false, cond_both, ne_eqb, lt-ltb, le-ltb}
use Rattle.places.specs.declared.PlaceFault.{PlaceFault}
use Rattle.places.specs.declared.table.Table.{Table}
use Rattle.places.specs.Places.{at, entry_at, grown, length_after}
use Rattle.places.specs.Tables.{entered_at}
use Rattle.map.specs.declared.Object.{Object}
use Rattle.map.specs.declared.ObjectData.{ObjectData}
use Rattle.map.specs.declared.ObjectMap.{ObjectMap}
use Rattle.map.specs.Map.{limit, client_places, answer_of, with_client, find_in, insert_answer, inserted, removed}
use Rattle.laws.specs.Sizes.{Sized, Used}
use Rattle.laws.proofs.Find.{entered_others, put_others}
use Rattle.laws.proofs.Kept.{sized_laws}

-- n + 1 ids of the client's half were used
pub record Half (n : ℕ) (m : ObjectMap ObjectData) : Type 0 where
  pub sized : Sized m
  pub used : Used m
  pub length_is : m.client_objects.len ≡ n + 1

module _ (n : ℕ) (m : ObjectMap ObjectData) (h : Half n m) (few : n ≤ 62) where
  positive : eqb (n + 2) 0 ≡ false
  positive = ne_eqb (n + 2) 0 (λ z. omega arith)

  pub low : ltb (n + 2) limit ≡ true
  low = lt-ltb (n + 2) limit (omega arith)

  index : (n + 2) - 1 ≡ n + 1
  index = omega arith

  next_entry : entry_at m.client_objects.places m.client_objects.len ((n + 2) - 1) ≡ Ok tt
  next_entry =
      ap (entry_at m.client_objects.places m.client_objects.len) index
      ∙ (cond-false (ltb m.client_objects.len (n + 1)) _ _ (le-ltb m.client_objects.len (n + 1) (omega (arith, h.length_is)))
      ∙ (cond-false (is_some (at m.client_objects.places (n + 1))) _ _ (ap is_some (h.used.0 (n + 1) (omega (arith, h.length_is))))
      ∙ cond-true (ltb (n + 1) (length m.client_objects.places)) _ _ (lt-ltb (n + 1) (length m.client_objects.places) (omega (arith, h.sized.0)))))

  pub next_enters : insert_answer m (n + 2) ≡ Ok tt
  next_enters = cond-false (eqb (n + 2) 0) _ _ positive ∙ (cond-true (ltb (n + 2) limit) _ _ low ∙ ap answer_of next_entry)

  module _ (o : Object ObjectData) where
    abbrev table : Table (Object ObjectData) client_places
    table = entered_at m.client_objects ((n + 2) - 1) o

    table_length : table.len ≡ n + 2
    table_length =
        ap (λ (r : Result (Unit {0}) PlaceFault). length_after r m.client_objects.len ((n + 2) - 1)) next_entry
        ∙ (ap (grown m.client_objects.len) index
        ∙ (cond-false (ltb (n + 1) m.client_objects.len) _ _ (le-ltb (n + 1) m.client_objects.len (omega (arith, h.length_is))) ∙ omega arith))

    inserted_is : inserted m (n + 2) o ≡ with_client m table
    inserted_is = cond-false (eqb (n + 2) 0) _ _ positive ∙ cond-true (ltb (n + 2) limit) _ _ low

    removed_length : (q : ObjectMap ObjectData) → (removed q (n + 2)).client_objects.len ≡ q.client_objects.len
    removed_length q =
        ap (λ (x : ObjectMap ObjectData). x.client_objects.len) (cond-false (eqb (n + 2) 0) _ _ positive ∙ cond-true (ltb (n + 2) limit) _ _ low)
        ∙ cond_both (is_some (at q.client_objects.places ((n + 2) - 1))) _ _ (λ (x : Table (Object ObjectData) client_places). x.len ≡ q.client_objects.len) (λ _. refl) (λ _. refl)

    pub next_half : Half (n + 1) (removed (inserted m (n + 2) o) (n + 2))
    next_half = record {
      sized = ((sized_laws ObjectData).remove (inserted m (n + 2) o) (n + 2)).0 (((sized_laws ObjectData).insert m (n + 2) o).0 h.sized);
      used = ((sized_laws ObjectData).remove (inserted m (n + 2) o) (n + 2)).1 (((sized_laws ObjectData).insert m (n + 2) o).1 h.used);
      length_is = removed_length (inserted m (n + 2) o) ∙ (ap (λ (x : ObjectMap ObjectData). x.client_objects.len) inserted_is ∙ (table_length ∙ omega arith));
    }

    pub others_stay : find_in (removed (inserted m (n + 2) o) (n + 2)) 1 ≡ find_in m 1
    others_stay = put_others (inserted m (n + 2) o) (n + 2) 1 None (λ e. omega arith) ∙ entered_others m (n + 2) 1 o (λ e. omega arith)
