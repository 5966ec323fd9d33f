-- A filling is refused exactly where it would break a law.
use Rattle.std.proofs.Common.{◌≡◌, ℕ, ◌<◌, ◌≤◌, true, ◌&&◌, ltb, leb, ◌≢◌, List, length, take, set, Some, Ok, Err, Result, sym, ap, ◌∙◌, subst, ⊎_elim, arith, length-take}
use Rattle.std.proofs.lemmas.List.{length-set, take-set-le}
use Rattle.std.proofs.lemmas.Bool.{lt-ltb, le-ltb, ltb-true, leb-true, le-leb, lt-leb, cond-true, cond-false, and_parts, and_from, and_left, cases_eq, cases_Bool}
use Rattle.std.specs.List.{slice_get}
use Rattle.protocol.specs.declared.refusal.Refusal.{Refusal}
use Rattle.protocol.specs.declared.refusal.Refusal.TheVariants.{NoRow, BreaksLaw}
use Rattle.protocol.specs.Model.{RowModel}
use Rattle.protocol.specs.Lawful.{Lawful, RowLaws, Makes, Fresh}
use Rattle.protocol.specs.RowTests.{may_stand}
use Rattle.protocol.specs.Filling.{fill_answer, FillLaws}
use Rattle.protocol.specs.Joins.{nth_set_same, nth_set_other}
use Rattle.protocol.specs.Lawfuls.{Stands, stands_words, stands_test}

never : (e : Refusal) → ◌≡◌ {A = Result (Unit {0}) Refusal} (Err e) (Ok tt) → ⊥
never e h = let z : ◌≡◌ {A = ℕ} 0 1 = cc in omega arith

module _ (rows : List RowModel) (number : ℕ) (row : RowModel) where
  past_end : length rows ≤ number → fill_answer rows number row ≡ Err NoRow
  past_end h = cond-false _ _ _ (le-ltb number (length rows) h)

  within : fill_answer rows number row ≡ Ok tt → number < length rows
  within e =
      ⊎_elim
      (λ t. ltb-true number (length rows) t)
      (λ f. absurd (never NoRow (sym (cond-false (ltb number (length rows)) _ _ f) ∙ e)))
      (cases_Bool (ltb number (length rows)))

  passed : fill_answer rows number row ≡ Ok tt → (leb 4 number && may_stand (length rows) row) ≡ true
  passed e =
      ⊎_elim
      (λ t. t)
      (λ f.
      absurd (never BreaksLaw
      (sym (cond-true (ltb number (length rows)) _ _ (lt-ltb number (length rows) (within e)) ∙ cond-false (leb 4 number && may_stand (length rows) row) _ _ f) ∙ e)))
      (cases_Bool (leb 4 number && may_stand (length rows) row))

  module _ (law : Lawful rows) where
    core_there : 4 ≤ length rows
    core_there = let e : length (take 4 rows) ≡ 4 = ap length law.begins in omega (arith, e, length-take 4 rows)

    core_kept : number < 4 → fill_answer rows number row ≡ Err BreaksLaw
    core_kept h =
        cond-true _ _ _ (lt-ltb number (length rows) (omega (arith, core_there)))
        ∙ cond-false _ _ _ (and_left (leb 4 number) (may_stand (length rows) row) (lt-leb 4 number h))

    module _ (e : fill_answer rows number row ≡ Ok tt) where
      low : 4 ≤ number
      low = leb-true 4 number (and_parts (leb 4 number) (may_stand (length rows) row) (passed e)).0

      stands : Stands (length rows) row
      stands = stands_words (length rows) row (and_parts (leb 4 number) (may_stand (length rows) row) (passed e)).1

      -- what holds of the new row, and of the old ones, holds of each
      each : (P : RowModel → Type 0) (i : ℕ) (r : RowModel) → P row → (slice_get rows i ≡ Some r → P r) → slice_get (set rows number row) i ≡ Some r → P r
      each P i r new old h =
          ⊎_elim
          (λ same.
          let found = nth_set_same rows number row (within e) in
          let at : slice_get (set rows number row) i ≡ slice_get (set rows number row) number = ap (slice_get (set rows number row)) same in
          let s : row ≡ r = cc in subst P s new)
          (λ other. old (sym (nth_set_other rows number i row other) ∙ h))
          (cases_eq i number)

      taken_lawful : Lawful (set rows number row)
      taken_lawful = record {
        begins = take-set-le 4 rows number row low ∙ law.begins;
        sound = λ i r h.
            subst (λ n. RowLaws n r) (sym (length-set rows number row)) (each (RowLaws (length rows)) i r stands.sound (law.sound i r) h);
        makes = λ i r ne h. each Makes i r stands.makes (law.makes i r ne) h;
        fresh = λ i r high h. each Fresh i r stands.fresh (law.fresh i r high) h;
      }

  lawful_taken : 4 ≤ number → number < length rows → Lawful (set rows number row) → fill_answer rows number row ≡ Ok tt
  lawful_taken h l law =
      let found = nth_set_same rows number row l in
      let ne : number ≢ 2 = λ z. omega arith in
      let t = stands_test (length rows) row
      record {
        sound = subst (λ n. RowLaws n row) (length-set rows number row) (law.sound number row found);
        makes = law.makes number row ne found;
        fresh = law.fresh number row h found;
      } in
      cond-true _ _ _ (lt-ltb number (length rows) l) ∙ cond-true _ _ _ (and_from (leb 4 number) (may_stand (length rows) row) (le-leb 4 number h) t)

pub fill_laws : FillLaws
fill_laws = record { past_end = past_end; core_kept = core_kept; taken_lawful = taken_lawful; lawful_taken = lawful_taken }
