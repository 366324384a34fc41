-- `Writer::free`: the parts of the line are written one behind another.
use Rattle.image.specs.Ascii.{ascii}
use Rattle.report.specs.WrittenLaws.{writes_then}
use Rattle.report.proofs.put.Writer.free.Goals as goal

pub returns : goal.returns
unfolding ascii
returns c = writes_then (writes_then (writes_then (writes_then c.all.ensures c.decimals.ensures) c.byte.ensures) c.decimals-2.ensures) c.byte-2.ensures
