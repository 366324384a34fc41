-- `count_lines`: the lines are written one behind another.
use Rattle.image.specs.Ascii.{ascii}
use Rattle.report.specs.Answer.{count_lines}
use Rattle.report.specs.WrittenLaws.{writes_then}
use Rattle.report.proofs.count_lines.Goals as goal

pub returns : goal.returns
unfolding ascii count_lines
returns c =
    let w2 = writes_then c.code_lines.ensures c.said.ensures in
    let w3 = writes_then w2 c.said-2.ensures in
    let w4 = writes_then w3 c.said-3.ensures in
    let w5 = writes_then w4 c.said-4.ensures in
    let w6 = writes_then w5 c.said-5.ensures in
    let w7 = writes_then w6 c.said-6.ensures in
    writes_then w7 c.said-7.ensures
