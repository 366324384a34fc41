-- `Figures::of`: what is added up so far, with what is left, are the figures of the whole list.
use Rattle.std.proofs.Common.{rules, ◌+◌, drop, max, ◌≡◌, ◌<◌, length, sym, ◌∙◌, arith}
use Rattle.runs.specs.Lists.{interval_at, listed}
use Rattle.freelist.specs.Figures.{largest}
use Rattle.freelist.specs.FiguresLaws.{largest_listed, listed_next, largest_next, listed_end, largest_end, picked}
use Rattle.freelist.specs.Records.{intervals}
use Rattle.freelist.specs.RecordsLaws.{length-intervals, interval_pair}
use Rattle.freelist.proofs.figures.Figures.of.Goals as goal
use Rattle.freelist.proofs.figures.Figures.of.Goals.{After-interval-size, After-loop-record}

-- What the interval in hand has of the list's figures.
here : (c : After-interval-size) → let l = intervals c.args.records.now in let i = c.loop-record.record-index in
    (listed (drop i l) ≡ c.interval-size.result.size + listed (drop (i + 1) l)) × (largest (drop i l) ≡ max c.interval-size.result.size (largest (drop (i + 1) l)))
here c =
    let pairs = c.args.records.now in
    let i = c.loop-record.record-index in
    let same : c.interval-size.result ≡ interval_at (intervals pairs) i = c.interval-size.ensures.value ∙ sym (interval_pair pairs i _ c.loop-record-test.true) in
    let inside : i < length (intervals pairs) = omega (arith, length-intervals pairs, c.loop-record-test.true) in
    (rw same (listed_next (intervals pairs) i inside), rw same (largest_next (intervals pairs) i inside))

pub loop-record-init : goal.loop-record-init
loop-record-init c = (search rules, omega arith)

pub overflow_add-listed : goal.overflow_add-listed
overflow_add-listed c = omega (arith, c.loop-record.invariant, here (goal.at.overflow_add-listed c).After-interval-size, c.requires)

pub loop-record-preserved : goal.loop-record-preserved
loop-record-preserved c =
    let h = c.loop-record in
    let k = here (goal.at.loop-record-preserved c).After-interval-size in
    (omega (arith, h.invariant.0, k.0), omega (arith, h.invariant.1, k.1, c.max-largest.ensures, picked h.largest c.interval-size.result.size))

-- Behind the loop all records are added up.
ends : (c : After-loop-record) → let l = intervals c.args.records.now in let h = c.loop-record in (listed l ≡ h.listed) × (largest l ≡ h.largest)
ends c =
    let l = intervals c.args.records.now in
    let h = c.loop-record in
    let last : h.record-index ≡ length l = omega (arith, length-intervals c.args.records.now, h.auto, c.loop-record-test.false) in
    (omega (arith, h.invariant.0, listed_end l h.record-index last), omega (arith, h.invariant.1, largest_end l h.record-index last))

pub fragment-fragment-requires : goal.fragment-fragment-requires
fragment-fragment-requires c =
    let e = ends c in
    (omega (arith, e, largest_listed (intervals c.args.records.now)), omega (arith, e, c.requires))

pub returns : goal.returns
returns c =
    let e = ends (goal.at.returns c).After-loop-record in
    rw (e.0, e.1) (rw c.fragment-fragment.ensures)
