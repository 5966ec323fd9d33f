-- The laws of a line.
use Rattle.std.proofs.Common.{refl, arith}
use Rattle.wire.specs.Laws.{LineLaws}

pub line_laws : LineLaws
line_laws = record {
  taken_shows = λ e l h. grind arith;
  taken_lowers = λ e l h. grind arith;
  refused_at_0 = λ e l h. grind arith;
  refused_only_at_0 = λ e l h. grind arith;
  refused_changes_nothing = λ e l h. grind arith;
  too_large_changes_nothing = λ e l h. grind arith;
  sendable_taken = λ e l h s. grind arith;
  taken_carried = λ e l h. grind arith;
  written_flushed = λ e l. grind arith;
  flushed_empty = λ l. refl;
  flushed_allowance = λ l. refl;
  opened_empty = λ l. (refl, refl, refl);
  limit_read = λ size signature l. refl;
  limit_written = λ e l. grind arith;
  limit_flushed = λ l. refl;
  limit_opened = λ l. refl;
  unread_stays = λ size signature l h. grind arith;
}
