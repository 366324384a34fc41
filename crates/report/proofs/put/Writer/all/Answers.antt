-- `Writer::all`: the bytes before this one are written.
use Rattle.std.proofs.Common.{add-one, take-suc}
use Rattle.report.specs.WrittenLaws.{writes_none, writes_then}
use Rattle.report.proofs.put.Writer.all.Goals as goal

pub loop-b-init : goal.loop-b-init
loop-b-init c = writes_none c.args.self.now

pub loop-b-preserved : goal.loop-b-preserved
loop-b-preserved c =
    let h = c.loop-b in
    rw (add-one h.b-index, take-suc c.args.from.now h.b-index 0 c.loop-b-test.true) (writes_then h.invariant c.byte.ensures)
