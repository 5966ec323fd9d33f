-- The core keeps the laws, and so does the core with rows after it that may stand there.
use Rattle.std.specs.Prelude.{◌≡◌, ℕ, zero, suc, ◌-◌, ◌<◌, ◌≤◌, true, ◌≢◌, List, ◌++◌, length, Some, nat_lt, refl}
use Rattle.std.proofs.Common.{sym, subst, ◌∙◌, ⊎_elim, arith}
use Rattle.std.proofs.lemmas.Bool.{lt-ltb, cases_lt}
use Rattle.std.specs.List.{slice_get}
use Rattle.protocol.specs.Tallies.{all}
use Rattle.protocol.specs.Model.{RowModel}
use Rattle.protocol.specs.CoreRows.{anonymous, display, callback, core_rows}
use Rattle.protocol.specs.Lawful.{Lawful, Makes, RowLaws}
use Rattle.protocol.specs.RowTests.{row_sound, makes_named, may_stand}
use Rattle.protocol.specs.Joins.{nth_front, nth_back}
use Rattle.protocol.specs.Lawfuls.{Stands, row_words, makes_words, stands_words}
use Rattle.protocol.specs.TalliesLemmas.{all_nth}

core_sound : (n : ℕ) → 4 ≤ n → all (row_sound n) core_rows ≡ true
core_sound n h =
    let a : nat_lt 0 n ≡ true = lt-ltb 0 n (omega arith) in
    let b : nat_lt 2 n ≡ true = lt-ltb 2 n (omega arith) in
    let d : nat_lt 3 n ≡ true = lt-ltb 3 n (omega arith) in
    simp (a, b, d)

core_named : (i : ℕ) (r : RowModel) → i ≢ 2 → slice_get core_rows i ≡ Some r → all makes_named r.requests ≡ true
core_named zero r ne e = let s : anonymous ≡ r = cc in subst (λ x. all makes_named x.requests ≡ true) s refl
core_named (suc zero) r ne e = let s : display ≡ r = cc in subst (λ x. all makes_named x.requests ≡ true) s refl
core_named (suc (suc zero)) r ne e = absurd (ne refl)
core_named (suc (suc (suc zero))) r ne e = let s : callback ≡ r = cc in subst (λ x. all makes_named x.requests ≡ true) s refl
core_named (suc (suc (suc (suc i)))) r ne e = absurd (let z : ◌≡◌ {A = ℕ} 0 1 = cc in omega arith)

core_makes : (i : ℕ) (r : RowModel) → i ≢ 2 → slice_get core_rows i ≡ Some r → Makes r
core_makes i r ne e = λ o m h. makes_words m (all_nth makes_named r.requests o m (core_named i r ne e) h)

module _ (xs : List RowModel) (later : all (may_stand (length (core_rows ++ xs))) xs ≡ true) where
  -- a row is one of the core, or may stand past it
  at_core : (i : ℕ) (r : RowModel) → i < 4 → slice_get (core_rows ++ xs) i ≡ Some r → slice_get core_rows i ≡ Some r
  at_core i r h e = sym (nth_front core_rows xs i h) ∙ e

  past_core : (i : ℕ) (r : RowModel) → 4 ≤ i → slice_get (core_rows ++ xs) i ≡ Some r → Stands (length (core_rows ++ xs)) r
  past_core i r h e =
      stands_words (length (core_rows ++ xs)) r
      (all_nth (may_stand (length (core_rows ++ xs))) xs (i - 4) r later (sym (nth_back core_rows xs i (i - 4) (omega arith)) ∙ e))

  sound_at : (i : ℕ) (r : RowModel) → slice_get (core_rows ++ xs) i ≡ Some r → RowLaws (length (core_rows ++ xs)) r
  sound_at i r e =
      ⊎_elim
      (λ h.
      row_words (length (core_rows ++ xs)) r
      (all_nth (row_sound (length (core_rows ++ xs))) core_rows i r (core_sound (length (core_rows ++ xs)) (omega arith)) (at_core i r h e)))
      (λ h. (past_core i r h e).sound)
      (cases_lt i 4)

  makes_at : (i : ℕ) (r : RowModel) → i ≢ 2 → slice_get (core_rows ++ xs) i ≡ Some r → Makes r
  makes_at i r ne e = ⊎_elim (λ h. core_makes i r ne (at_core i r h e)) (λ h. (past_core i r h e).makes) (cases_lt i 4)

  pub joined_lawful : Lawful (core_rows ++ xs)
  joined_lawful = record {
    begins = refl;
    sound = sound_at;
    makes = makes_at;
    fresh = λ i r h e. (past_core i r h e).fresh;
  }
