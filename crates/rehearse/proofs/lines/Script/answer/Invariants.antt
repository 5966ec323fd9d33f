use Rattle.std.proofs.Common.{◌≤◌, length}
use denote.Param.Always.{always_mut}
use Rattle.rehearse.proofs.lines.Script.answer.Given as goal

abbrev pub invariant-loop-line : goal.invariant-loop-line
invariant-loop-line g l =
    (always_mut g.F.FnMut l.initial.serve → always_mut g.F.FnMut l.serve)
    × (length l.self.lines.now ≤ length l.initial.self.lines.now)

abbrev pub decreases-loop-line : goal.decreases-loop-line
decreases-loop-line g l = length l.self.lines.now
