-- `text_lines`: the text is an image whose lines are written, or wrong.
use Rattle.report.specs.AnswerLaws.{answer_wrong, answer_right}
use Rattle.report.proofs.text_lines.Goals as goal

pub returns-in-Ok : goal.returns-in-Ok
returns-in-Ok c = rw (← answer_right c.args.text.now _ _ c.read.ensures.meaning c.in-Ok.is) c.image_lines.ensures

pub returns-in-Err : goal.returns-in-Err
returns-in-Err c = rw (← answer_wrong c.args.text.now _ _ c.read.ensures.meaning c.in-Err.is) (rw (c.number.ensures, c.line.ensures) at c.code_lines.ensures)
