-- `main`: what is written lies in the buffer.
use Rattle.std.proofs.Common.{sym, length-take-le}
use Rattle.report.specs.AnswerLaws.{reports_inside}
use Rattle.haydhoorix.proofs.main.Goals as goal

pub slice_bounds-out-end : goal.slice_bounds-out-end
slice_bounds-out-end c = reports_inside _ _ c.answer-m.ensures

pub slice_bounds-write_all-end : goal.slice_bounds-write_all-end
slice_bounds-write_all-end c = sym (length-take-le _ _ (reports_inside _ _ c.answer-m.ensures))
