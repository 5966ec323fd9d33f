use Rattle.std.proofs.Common.{◌≡◌, map, replicate, vec_items}
use Rattle.protocol.specs.CoreRows.{blank}
use Rattle.protocol.specs.Model.{meant_buf}
use Rattle.protocol.proofs.fills.blanks.Given as goal

-- the rows so far are blank
abbrev pub invariant-loop : goal.invariant-loop
invariant-loop l = map meant_buf (vec_items l.rows) ≡ replicate l.counter blank
