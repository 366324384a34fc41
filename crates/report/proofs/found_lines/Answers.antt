-- `found_lines`: both ways out are laws of `lines_after`.
use Rattle.std.proofs.Common.{refl, arith, Ok}
use Rattle.layout.specs.RefusalLaws.{number_some}
use Rattle.collector.specs.Collect.{collect_told}
use Rattle.report.specs.AnswerLaws.{refuses_survey, counts_all, records_lie}
use Rattle.report.specs.WrittenLaws.{writes_then}
use Rattle.report.proofs.found_lines.Goals as goal

pub below-requires : goal.below-requires
below-requires c = let t = c.args in records_lie (collect_told (Ok t.found)) t.list.now refl c.in-Ok.ensures refl

pub returns-in-Ok : goal.returns-in-Ok
returns-in-Ok c = let t = c.args in rw (← counts_all (collect_told (Ok t.found)) t.list.now refl c.in-Ok.ensures refl) (writes_then c.count_lines.ensures (rw c.below.ensures at c.free_lines.ensures))

pub returns-in-Err : goal.returns-in-Err
returns-in-Err c =
    let t = c.args in
    rw (← refuses_survey (collect_told (Ok t.found)) t.list.now refl c.in-Err.ensures (λ none. omega (arith, number_some c.in-Err.refusal))) (rw c.number.ensures at c.code_lines.ensures)
