-- `line_at`: the place that a byte stands in is one of the 48.
use Rattle.std.proofs.Common.{◌≤◌}
use Rattle.lines.proofs.line_at.Given as goal

abbrev pub invariant-loop-size : goal.invariant-loop-size
invariant-loop-size l = l.k ≤ 47
