-- `Writer::decimals`: the decimals of its tenth, if there is one, stand before a number's last.
use Rattle.std.proofs.Common.{arith}
use Rattle.report.specs.PrintedLaws.{decimals_last, decimals_more}
use Rattle.report.specs.WrittenLaws.{writes_then}
use Rattle.report.proofs.put.Writer.+decimals.Goals as goal
use Rattle.report.proofs.put.Writer.+decimals.Goals.{then-n-ge10, else-n-ge10}

pub returns : goal.returns
returns t c =
    elim c.if-n-ge10.branch [
      | then-n-ge10 w ↦ rw (← decimals_more c.args.n w.if-n-ge10.true (omega arith)) (writes_then (rw (← w.self-is) at w.decimals.ensures) c.byte.ensures)
      | else-n-ge10 w ↦ rw (← decimals_last c.args.n (omega arith)) (rw w.self-is at c.byte.ensures)
    ]
