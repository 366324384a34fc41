-- `code_lines`: both lines are written one behind the other.
use Rattle.image.specs.Ascii.{ascii}
use Rattle.report.specs.WrittenLaws.{writes_then}
use Rattle.report.proofs.code_lines.Goals as goal

pub returns : goal.returns
unfolding ascii
returns c = writes_then c.said.ensures c.said-2.ensures
