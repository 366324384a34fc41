-- `image_lines`: the lines go by what the collection has answered and left.
use Rattle.std.proofs.Common.{rules, ◌≡◌}
use Rattle.layout.specs.SetUp.{set_up_told}
use Rattle.report.specs.AnswerLaws.{image_answered}
use Rattle.report.proofs.image_lines.Goals as goal

pub returns : goal.returns
returns c =
    let t = c.args in
    let fresh : c.unwrap_or_default-fresh.result ≡ (set_up_told c.set_up.result).state = search rules in
    rw (← image_answered t.heap.now t.keep t.roots.now c.set_up.ensures (rw fresh at c.collect-found.ensures)) c.lines_after.ensures
