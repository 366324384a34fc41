-- `free_lines`: with what is left to write, all is written.
use Rattle.std.proofs.Common.{arith, sym, ◌∙◌, drop_of_length-le}
use Rattle.freelist.specs.Records.{intervals}
use Rattle.freelist.specs.RecordsLaws.{length-intervals, interval_pair, interval_next}
use Rattle.report.specs.Printed.{free_lines}
use Rattle.report.specs.WrittenLaws.{writes_none, writes_then}
use Rattle.report.proofs.free_lines.Goals as goal

pub loop-record-preserved : goal.loop-record-preserved
unfolding free_lines
loop-record-preserved c =
    let h = c.loop-record in
    let pairs = c.args.listed.now in
    let line = rw (c.interval.ensures.value ∙ sym (interval_pair pairs h.record-index _ c.loop-record-test.true)) at c.free.ensures in
    λ after e. h.invariant after (rw (interval_next (intervals pairs) h.record-index (omega (arith, length-intervals pairs, c.loop-record-test.true))) (writes_then line e))

pub returns : goal.returns
unfolding free_lines
returns c =
    let h = c.loop-record in
    let l = intervals c.args.listed.now in
    h.invariant h.to (rw (drop_of_length-le l {i = h.record-index} (omega (arith, length-intervals c.args.listed.now, c.loop-record-test.false))) (writes_none h.to))
