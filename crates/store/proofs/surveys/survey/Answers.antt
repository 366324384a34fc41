-- `survey`: each way out is a law of `surveys`.
use Rattle.std.proofs.Common.{rules, ◌*◌, ◌≤◌, ◌<◌, length, take, ◌≡◌, sym, ◌∙◌, refl}
use lib.Seq.{length-take-le}
use Rattle.layout.specs.LimitsLaws.{needed_ok, needed_err, rooms_out}
use Rattle.store.specs.Survey.{survey_told, survey_refused}
use Rattle.store.proofs.SurveyLaws.{survey_limits, survey_short, survey_part, survey_list, survey_asks, survey_figures}
use Rattle.runs.specs.Lists.{listed}
use Rattle.freelist.specs.Records.{records}
use Rattle.store.proofs.surveys.survey.Goals as goal
use Rattle.store.proofs.surveys.survey.Goals.{Else-not-are_valid}

pub returns-in_err-rooms : goal.returns-in_err-rooms
returns-in_err-rooms c =
    let t = c.args in
    let no = needed_err _ _ c.in_err-rooms.ensures in
    let told : survey_told c.from_residual.result ≡ survey_refused 1 = search (rules, no.0) in
    told ∙ survey_limits t.state t.list.now (sym (rooms_out _ _ no.1)) refl

pub returns-then-list-n : goal.returns-then-list-n
returns-then-list-n c =
    let t = c.args in
    let k = needed_ok _ _ c.in_ok-rooms.ensures in
    survey_short t.state t.list.now k.0 k.1 c.if-list-n.true

pub slice_bounds-part-end : goal.slice_bounds-part-end
slice_bounds-part-end c = let t = c.args in sym (length-take-le _ t.list.now c.if-list-n.false)

pub are_valid-requires : goal.are_valid-requires
are_valid-requires c =
    let t = c.args in
    let k = needed_ok _ _ c.in_ok-rooms.ensures in
    survey_part t.state t.list.now k.0 k.1 c.if-list-n.false

pub returns-then-not-are_valid : goal.returns-then-not-are_valid
returns-then-not-are_valid c =
    let t = c.args in
    let k = needed_ok _ _ c.in_ok-rooms.ensures in
    survey_list t.state t.list.now k.0 k.1 c.if-list-n.false c.are_valid.ensures c.if-not-are_valid.true

-- The figures can be had.
asks : (c : Else-not-are_valid) → let t = c.args in let part = take c.in_ok-rooms.rooms.list t.list.now in (2 * t.state.count ≤ length part) × (listed (records t.state.count part) < 65536)
asks c =
    let t = c.args in
    let k = needed_ok _ _ c.in_ok-rooms.ensures in
    survey_asks t.state t.list.now k.0 k.1 c.if-list-n.false c.are_valid.ensures c.if-not-are_valid.false

pub below-requires : goal.below-requires
below-requires c = (asks c).0

pub of-requires : goal.of-requires
of-requires c = rw c.below.ensures (asks (goal.at.of-requires c).Else-not-are_valid).1

pub returns : goal.returns
returns c =
    let t = c.args in
    let k = needed_ok _ _ c.in_ok-rooms.ensures in
    survey_figures t.state t.list.now k.0 k.1 c.if-list-n.false c.are_valid.ensures c.if-not-are_valid.false (rw c.below.ensures at c.of.ensures)
