-- `answer`: what is written in a buffer that is long enough is the definition's answer.
use Rattle.std.proofs.Common.{refl, ◌∙◌, arith, rules}
use Rattle.report.specs.AnswerLaws.{reports_short, reports_written}
use Rattle.report.proofs.answer.Goals as goal

pub returns-then-out-lt-ANSWER_ROOM : goal.returns-then-out-lt-ANSWER_ROOM
returns-then-out-lt-ANSWER_ROOM c = let t = c.args in reports_short t.text.now t.out.now (omega arith)

pub returns : goal.returns
returns c =
    let n = c.new-to.ensures in
    (search rules) ∙ reports_written c.args.text.now c.args.out.now (omega arith) (rw (n.front.0, n.front.1) at c.text_lines.ensures.written) refl
