-- `Writer::decimals`: the number gets smaller.
use Rattle.report.proofs.put.Writer.+decimals.Given as goal

abbrev pub decreases-decimals : goal.decreases-decimals
decreases-decimals l = l.n
