-- The tests of rows are the laws in words.
use Rattle.std.specs.Prelude.{◌≡◌, ℕ, ◌<◌, true, not, ltb, List, length, is_some, Some, None, Option, ◌==◌, nat_le, nat_lt, refl}
use Rattle.std.proofs.Common.{sym, subst, ◌∙◌, ⊎_elim, arith}
use Rattle.std.proofs.lemmas.Bool.{and_parts, and_from, ltb-true, lt-ltb, leb-true, le-leb, eqb-true, eq-eqb, ne_eqb, cond-true, cond-false, cases_eq, cases_Bool, true≢false, not_from_false, not_from_true}
use Rattle.std.proofs.lemmas.Slice.Eq.{bytes_eq-Decides}
use Rattle.std.specs.Str.{bytes_eq}
use Rattle.protocol.specs.Kinds.{is_object, is_new_id}
use Rattle.protocol.specs.Tallies.{all, count}
use Rattle.protocol.specs.Model.{MessageModel, RowModel}
use Rattle.protocol.specs.CoreRows.{core_rows}
use Rattle.protocol.specs.Lawful.{Named, MessageLaws, RowLaws, Makes, Fresh}
use Rattle.protocol.specs.RowTests.{named, child_exists, message_sound, row_sound, makes_named, is_fresh, may_stand}
use Rattle.protocol.specs.TalliesLemmas.{all_nth, all_from}

pub named_words : (bytes : List ℕ) → named bytes ≡ true → Named bytes
named_words bytes e =
    let a = and_parts (nat_lt 0 (length bytes)) _ e in
    let b = and_parts (nat_le (length bytes) 32) (all (λ x. ltb 0 x) bytes) a.1 in
    record {
      something = ltb-true 0 (length bytes) a.0;
      short = leb-true (length bytes) 32 b.0;
      no_zero = λ i x h. ltb-true 0 x (all_nth (λ y. ltb 0 y) bytes i x b.1 h);
    }

pub named_test : (bytes : List ℕ) → Named bytes → named bytes ≡ true
named_test bytes w =
    and_from (nat_lt 0 (length bytes)) _ (lt-ltb 0 (length bytes) w.something)
    (and_from (nat_le (length bytes) 32) _ (le-leb (length bytes) 32 w.short)
    (all_from (λ y. ltb 0 y) bytes (λ i x h. lt-ltb 0 x (w.no_zero i x h))))

child_words : (n : ℕ) (child : Option ℕ) → child_exists n child ≡ true → (row : ℕ) → child ≡ Some row → row < n
child_words n None e row h = absurd (let z : ◌≡◌ {A = ℕ} 0 1 = cc in omega arith)
child_words n (Some x) e row h = let s : x ≡ row = cc in subst (λ k. k < n) s (ltb-true x n e)

child_test : (n : ℕ) (child : Option ℕ) → ((row : ℕ) → child ≡ Some row → row < n) → child_exists n child ≡ true
child_test n None h = refl
child_test n (Some x) h = lt-ltb x n (h x refl)

pub message_words : (n : ℕ) (m : MessageModel) → message_sound n m ≡ true → MessageLaws n m
message_words n m e =
    let a = and_parts (named m.name) _ e in
    let b = and_parts (nat_le (length m.kinds) 8) _ a.1 in
    let d = and_parts (count is_object m.kinds == length m.rows) _ b.1 in
    let f = and_parts (nat_le (count is_new_id m.kinds) 1) _ d.1 in
    let g = and_parts (all (λ row. ltb row n) m.rows) (child_exists n m.child) f.1 in
    record {
      named = named_words m.name a.0;
      few_kinds = leb-true (length m.kinds) 8 b.0;
      objects = eqb-true (count is_object m.kinds) (length m.rows) d.0;
      one_new_id = leb-true (count is_new_id m.kinds) 1 f.0;
      rows_exist = λ i row h. ltb-true row n (all_nth (λ r. ltb r n) m.rows i row g.0 h);
      child_row_exists = child_words n m.child g.1;
    }

pub message_test : (n : ℕ) (m : MessageModel) → MessageLaws n m → message_sound n m ≡ true
message_test n m w =
    and_from (named m.name) _ (named_test m.name w.named)
    (and_from (nat_le (length m.kinds) 8) _ (le-leb (length m.kinds) 8 w.few_kinds)
    (and_from (count is_object m.kinds == length m.rows) _ (eq-eqb (count is_object m.kinds) (length m.rows) w.objects)
    (and_from (nat_le (count is_new_id m.kinds) 1) _ (le-leb (count is_new_id m.kinds) 1 w.one_new_id)
    (and_from (all (λ row. ltb row n) m.rows) _ (all_from (λ r. ltb r n) m.rows (λ i row h. lt-ltb row n (w.rows_exist i row h)))
    (child_test n m.child w.child_row_exists)))))

pub row_words : (n : ℕ) (r : RowModel) → row_sound n r ≡ true → RowLaws n r
row_words n r e =
    let a = and_parts (named r.name) _ e in
    let b = and_parts (nat_le (length r.requests) 16) _ a.1 in
    let d = and_parts (nat_le (length r.events) 16) _ b.1 in
    let f = and_parts (all (message_sound n) r.requests) (all (message_sound n) r.events) d.1 in
    record {
      named = named_words r.name a.0;
      few_requests = leb-true (length r.requests) 16 b.0;
      few_events = leb-true (length r.events) 16 d.0;
      requests = λ o m h. message_words n m (all_nth (message_sound n) r.requests o m f.0 h);
      events = λ o m h. message_words n m (all_nth (message_sound n) r.events o m f.1 h);
    }

pub row_test : (n : ℕ) (r : RowModel) → RowLaws n r → row_sound n r ≡ true
row_test n r w =
    and_from (named r.name) _ (named_test r.name w.named)
    (and_from (nat_le (length r.requests) 16) _ (le-leb (length r.requests) 16 w.few_requests)
    (and_from (nat_le (length r.events) 16) _ (le-leb (length r.events) 16 w.few_events)
    (and_from (all (message_sound n) r.requests) _ (all_from (message_sound n) r.requests (λ o m h. message_test n m (w.requests o m h)))
    (all_from (message_sound n) r.events (λ o m h. message_test n m (w.events o m h))))))

pub makes_words : (m : MessageModel) → makes_named m ≡ true → 0 < count is_new_id m.kinds → is_some m.child ≡ true
makes_words m e h =
    sym (cond-false (count is_new_id m.kinds == 0) true (is_some m.child) (ne_eqb (count is_new_id m.kinds) 0 (λ z. omega arith))) ∙ e

makes_test : (m : MessageModel) → (0 < count is_new_id m.kinds → is_some m.child ≡ true) → makes_named m ≡ true
makes_test m h =
    ⊎_elim
    (λ z. cond-true (count is_new_id m.kinds == 0) true (is_some m.child) (eq-eqb (count is_new_id m.kinds) 0 z))
    (λ z. cond-false (count is_new_id m.kinds == 0) true (is_some m.child) (ne_eqb (count is_new_id m.kinds) 0 z) ∙ h (omega arith))
    (cases_eq (count is_new_id m.kinds) 0)

same_when : (a b : List ℕ) → a ≡ b → bytes_eq a b ≡ true
same_when a b e = grind (arith, bytes_eq-Decides)

when_same : (a b : List ℕ) → bytes_eq a b ≡ true → a ≡ b
when_same a b e = grind (arith, bytes_eq-Decides)

fresh_words : (r : RowModel) → is_fresh r.name ≡ true → Fresh r
fresh_words r e k core h same =
    let t = all_nth (λ c. not (bytes_eq c.name r.name)) core_rows k core e h in
    true≢false (sym t ∙ not_from_true (bytes_eq core.name r.name) (same_when core.name r.name (sym same)))

fresh_test : (r : RowModel) → Fresh r → is_fresh r.name ≡ true
fresh_test r f =
    all_from (λ c. not (bytes_eq c.name r.name)) core_rows
    (λ k core h.
    ⊎_elim
    (λ t. absurd (f k core h (sym (when_same core.name r.name t))))
    (λ t. not_from_false (bytes_eq core.name r.name) t)
    (cases_Bool (bytes_eq core.name r.name)))

pub record Stands (n : ℕ) (r : RowModel) : Type 0 where
  pub sound : RowLaws n r
  pub makes : Makes r
  pub fresh : Fresh r

-- a row that may stand past the core: the test is the laws
pub stands_words : (n : ℕ) (r : RowModel) → may_stand n r ≡ true → Stands n r
stands_words n r e =
    let a = and_parts (row_sound n r) _ e in
    let b = and_parts (all makes_named r.requests) (is_fresh r.name) a.1 in
    record {
      sound = row_words n r a.0;
      makes = λ o m h. makes_words m (all_nth makes_named r.requests o m b.0 h);
      fresh = fresh_words r b.1;
    }

pub stands_test : (n : ℕ) (r : RowModel) → Stands n r → may_stand n r ≡ true
stands_test n r w =
    and_from (row_sound n r) _ (row_test n r w.sound)
    (and_from (all makes_named r.requests) _ (all_from makes_named r.requests (λ o m h. makes_test m (w.makes o m h)))
    (fresh_test r w.fresh))
