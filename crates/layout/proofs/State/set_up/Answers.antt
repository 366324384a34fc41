-- `State::set_up`: each way out is a law of `sets_up`.
use Rattle.std.proofs.Common.{rules, ◌≡◌, refl, sym, ◌∙◌}
use lib.Seq.{length-take-le}
use Rattle.layout.specs.LimitsLaws.{allowed, list_needs, needed_ok, needed_err, rooms_out}
use Rattle.layout.specs.SetUp.{set_up_told, set_up_refused}
use Rattle.layout.specs.SetUpLaws.{refuses_limits, refuses_map, refuses_list, accepts}
use Rattle.layout.proofs.State.set_up.Goals as goal

pub returns-in_err-rooms : goal.returns-in_err-rooms
returns-in_err-rooms c =
    let t = c.args in
    let no = needed_err _ _ c.in_err-rooms.ensures in
    let told : set_up_told c.from_residual.result ≡ set_up_refused 1 = search (rules, no.0) in
    rw told (refuses_limits t.heap.now t.keep t.map.now t.list.now (sym (rooms_out _ _ no.1)) refl)

pub returns-then-map-m : goal.returns-then-map-m
returns-then-map-m c =
    let t = c.args in
    let k = needed_ok _ _ c.in_ok-rooms.ensures in
    refuses_map t.heap.now t.keep t.map.now t.list.now k.0 k.1 c.if-map-m.true

pub returns-then-list-n : goal.returns-then-list-n
returns-then-list-n c =
    let t = c.args in
    let k = needed_ok _ _ c.in_ok-rooms.ensures in
    refuses_list t.heap.now t.keep t.map.now t.list.now k.0 k.1 c.if-map-m.false c.if-list-n.true

pub first_list-count-requires : goal.first_list-count-requires
first_list-count-requires c =
    let k = needed_ok _ _ c.in_ok-rooms.ensures in
    (allowed _ _ k.0 k.1, length-take-le _ _ c.if-list-n.false ∙ list_needs _ _ k.0 k.1)

pub returns : goal.returns
returns c =
    let t = c.args in
    let k = needed_ok _ _ c.in_ok-rooms.ensures in
    let first = c.first_list-count.ensures in
    accepts t.heap.now t.keep t.map.now t.list.now k.0 k.1 c.if-map-m.false c.if-list-n.false
    first.value c.clear.ensures first.list_after
