-- `Writer::all`: the bytes before this one are written.
use Rattle.std.proofs.Common.{take}
use Rattle.report.specs.Written.{Writes}
use Rattle.report.proofs.put.Writer.all.Given as goal

abbrev pub invariant-loop-b : goal.invariant-loop-b
invariant-loop-b l = Writes l.fn.self (take l.b-index l.from) l.self
