-- `records::are_valid`: what the rule says of all records is what it says of those left, from the end of the last one on.
use Rattle.std.proofs.Common.{◌≡◌, ◌<◌, List, length, sym, ap, ◌∙◌}
use Rattle.layout.specs.declared.Interval.{Interval}
use Rattle.runs.specs.Lists.{interval_at}
use native.Mathlib.Omega.{arith}
use Rattle.freelist.specs.RecordsLaws.{length-records, record_at_lem, length-intervals, interval_pair, valid_above, valid_room, order_stop, order_next, order_end}
use Rattle.freelist.specs.Records.{record_at}
use Rattle.freelist.proofs.records.are_valid.Goals as goal
use Rattle.freelist.proofs.records.are_valid.Goals.{After-interval-record}

pub returns-then-list-count : goal.returns-then-list-count
returns-then-list-count c = let t = c.args in sym (valid_above t.words t.keep t.count t.list.now c.requires (omega arith))

pub loop-record-init : goal.loop-record-init
loop-record-init c = let t = c.args in valid_room t.words t.keep t.count t.list.now c.requires (omega arith)

-- The interval in hand is that of the record.
here : (c : After-interval-record) → let t = c.args in (c.loop-record.record-index < t.count) × (c.interval-record.result ≡ record_at t.list.now c.loop-record.record-index)
here c =
    let t = c.args in
    let pairs = c.below-record-items.result.now in
    let i = c.loop-record.record-index in
    let long : length pairs ≡ t.count = sym (length-intervals pairs) ∙ ap length c.below-record-items.ensures ∙ length-records t.count t.list.now in
    let inside : i < t.count = omega (arith, long, c.loop-record-test.true) in (
      inside,
      c.interval-record.ensures.value ∙ sym (interval_pair pairs i _ c.loop-record-test.true) ∙ ap (λ (l : List Interval). interval_at l i) c.below-record-items.ensures ∙ record_at_lem t.count t.list.now i inside,
    )

pub returns-then-not-end-start : goal.returns-then-not-end-start
returns-then-not-end-start c =
    let t = c.args in
    let h = c.loop-record in
    let k = here (goal.at.returns-then-not-end-start c).After-interval-record in
    sym (h.invariant ∙ order_stop t.words t.keep t.count t.list.now h.end h.record-index k.0 k.1 c.if-not-end-start.true)

pub loop-record-preserved : goal.loop-record-preserved
loop-record-preserved c =
    let t = c.args in
    let h = c.loop-record in
    let k = here (goal.at.loop-record-preserved c).After-interval-record in
    h.invariant ∙ order_next t.words t.keep t.count t.list.now h.end h.record-index k.0 k.1 c.if-not-end-start.false

pub returns : goal.returns
returns c =
    let t = c.args in
    let h = c.loop-record in
    let pairs = c.below-record-items.result.now in
    let long : length pairs ≡ t.count = sym (length-intervals pairs) ∙ ap length c.below-record-items.ensures ∙ length-records t.count t.list.now in
    let last : h.record-index ≡ t.count = omega (arith, long, h.auto, c.loop-record-test.false) in
    sym (h.invariant ∙ order_end t.words t.keep t.count t.list.now h.end h.record-index last)
