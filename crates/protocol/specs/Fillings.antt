-- Filling, over what stands past the core.
use Rattle.std.specs.Prelude.{◌≡◌, ℕ, ◌+◌, ◌<◌, Bool, true, false, ◌&&◌, List, ◌++◌, map, length, Ok, Err, nat_le, slice_set}
use Rattle.std.proofs.Common.{sym, ap, subst, ◌∙◌, arith}
use Rattle.std.proofs.lemmas.List.{length-map, map-set}
use Rattle.std.proofs.lemmas.Bool.{lt-ltb, cond-true, cond-false}
use Rattle.protocol.specs.declared.interface.InterfaceBuf.{InterfaceBuf}
use Rattle.protocol.specs.declared.refusal.Refusal.TheVariants.{BreaksLaw}
use Rattle.protocol.specs.Tallies.{all}
use Rattle.protocol.specs.Model.{RowModel, meant_buf}
use Rattle.protocol.specs.CoreRows.{core_rows}
use Rattle.protocol.specs.RowTests.{may_stand}
use Rattle.protocol.specs.Filling.{fill_answer}
use Rattle.protocol.specs.Joins.{set_back}
use Rattle.protocol.specs.TalliesLemmas.{all_set}

pub rows_length : (later : List InterfaceBuf) (n : ℕ) → n ≡ length later → length (core_rows ++ map meant_buf later) ≡ n + 4
rows_length later n e = let l = length-map later meant_buf in omega arith

module _ (rows : List RowModel) (n number : ℕ) (row : RowModel) (long : length rows ≡ n) where
  pub breaks : number < n → (nat_le 4 number && may_stand n row) ≡ false → Err BreaksLaw ≡ fill_answer rows number row
  breaks h e =
      sym (cond-true _ _ _ (lt-ltb number (length rows) (omega arith))
      ∙ cond-false _ _ _ (subst (λ k. (nat_le 4 number && may_stand k row) ≡ false) (sym long) e))

  pub stands : number < n → (nat_le 4 number && may_stand n row) ≡ true → Ok tt ≡ fill_answer rows number row
  stands h e =
      sym (cond-true _ _ _ (lt-ltb number (length rows) (omega arith))
      ∙ cond-true _ _ _ (subst (λ k. (nat_le 4 number && may_stand k row) ≡ true) (sym long) e))

module _ (later : List InterfaceBuf) (i : ℕ) (row : InterfaceBuf) where
  pub all_kept : (f : RowModel → Bool) → f (meant_buf row) ≡ true → all f (map meant_buf later) ≡ true → all f (map meant_buf (slice_set later i row)) ≡ true
  all_kept f h g = ap (all f) (map-set meant_buf later i row) ∙ all_set f (map meant_buf later) i (meant_buf row) h g

  pub rows_set : (number : ℕ) → number ≡ 4 + i → core_rows ++ map meant_buf (slice_set later i row) ≡ slice_set (core_rows ++ map meant_buf later) number (meant_buf row)
  rows_set number e =
      ap (λ l. core_rows ++ l) (map-set meant_buf later i row) ∙ sym (set_back core_rows (map meant_buf later) number i (meant_buf row) e)
