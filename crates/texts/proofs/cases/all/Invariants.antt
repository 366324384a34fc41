-- `cases::all` is safe and ends: each turn goes past a line.
use Rattle.std.proofs.Common.{◌-◌, length}
use Rattle.texts.proofs.cases.all.Given as goal

abbrev pub decreases-loop-at : goal.decreases-loop-at
decreases-loop-at g l = length l.input - l.at
