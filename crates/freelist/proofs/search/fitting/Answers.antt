-- `search::fitting`: what the search finds in the whole list it finds from record j on.
use Rattle.std.proofs.Common.{◌≡◌, ◌<◌, length, refl, sym, ap, ◌∙◌, arith}
use borrow.Author.Tests.{le-leb, lt-leb}
use Rattle.runs.specs.Lists.{interval_at}
use Rattle.freelist.specs.Records.{intervals}
use Rattle.freelist.specs.RecordsLaws.{length-intervals, interval_pair}
use Rattle.freelist.specs.Search.{fits, fitting}
use Rattle.freelist.specs.SearchLaws.{first_end, first_here, first_next}
use Rattle.freelist.proofs.search.fitting.Goals as goal
use Rattle.freelist.proofs.search.fitting.Goals.{After-interval-size}

-- The interval in hand is that of the list.
here : (c : After-interval-size) → let l = intervals c.args.records.now in (c.loop-j.j < length l) × (c.interval-size.result ≡ interval_at l c.loop-j.j)
here c =
    let pairs = c.args.records.now in
    (omega (arith, length-intervals pairs, c.loop-j-test.true), c.interval-size.ensures.value ∙ sym (interval_pair pairs c.loop-j.j _ c.loop-j-test.true))

pub loop-j-init : goal.loop-j-init
unfolding fitting
loop-j-init c = refl

pub loop-j-preserved : goal.loop-j-preserved
loop-j-preserved c =
    let t = c.args in
    let h = c.loop-j in
    let k = here (goal.at.loop-j-preserved c).After-interval-size in
    h.invariant ∙ first_next (fits t.s) (intervals t.records.now) h.j k.0 (ap (fits t.s) (sym k.1) ∙ lt-leb t.s c.interval-size.result.size (omega arith))

pub returns-then-s-size : goal.returns-then-s-size
returns-then-s-size c =
    let t = c.args in
    let h = c.loop-j in
    let k = here (goal.at.returns-then-s-size c).After-interval-size in
    sym (h.invariant ∙ first_here (fits t.s) (intervals t.records.now) h.j k.0 (ap (fits t.s) (sym k.1) ∙ le-leb t.s c.interval-size.result.size (omega arith)))

pub returns-after-loop-j : goal.returns-after-loop-j
returns-after-loop-j c =
    let t = c.args in
    let h = c.loop-j in
    sym (h.invariant ∙ first_end (fits t.s) (intervals t.records.now) h.j (omega (arith, length-intervals t.records.now, h.auto, c.loop-j-test.false)))
