-- `decimals::is_plain`: the number of bytes tells which case of the definition it is.
use Rattle.std.proofs.Common.{arith}
use Rattle.image.specs.DecimalLaws.{plain_none, plain_one, plain_more}
use Rattle.image.proofs.decimals.is_plain.Goals as goal

pub returns-in-empty : goal.returns-in-empty
returns-in-empty c = plain_none c.args.part.now (omega arith)

pub returns-in-len1 : goal.returns-in-len1
returns-in-len1 c = plain_one c.args.part.now (omega arith)

pub returns-in-len1-up : goal.returns-in-len1-up
returns-in-len1-up c = plain_more c.args.part.now (omega arith) (omega arith)
