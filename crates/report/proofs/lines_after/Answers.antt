-- `lines_after`: a refusal has its two lines.
use Rattle.std.proofs.Common.{arith, Err}
use Rattle.layout.specs.RefusalLaws.{number_some}
use Rattle.collector.specs.Collect.{collect_told}
use Rattle.report.specs.AnswerLaws.{refuses_collection}
use Rattle.report.proofs.lines_after.Goals as goal

pub returns-in-Err : goal.returns-in-Err
returns-in-Err c =
    let r = c.in-Err.refused in
    rw (c.in-Err.is, ← refuses_collection (collect_told (Err r)) c.args.list.now (λ none. omega (arith, number_some r.fault.refusal))) (rw c.number.ensures at c.code_lines.ensures)
