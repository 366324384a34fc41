-- `allot`: each way out is a law of `allots`.
use Rattle.std.proofs.Common.{rules, ◌≡◌, refl, sym, ◌∙◌, true, ◌≤◌, length, Ok, Err, Result, length-take-le}
use Rattle.layout.specs.Limits.{rooms_of, fitted}
use Rattle.layout.specs.LimitsLaws.{fitted_ok, fitted_err, suits_by, suits_tells}
use Rattle.layout.specs.declared.Rooms.{Rooms}
use Rattle.layout.specs.declared.refusal.Refusal.{Refusal}
use Rattle.layout.specs.declared.refusal.Refusal.TheVariants.{Room}
use Rattle.store.proofs.AllotLaws.{allot_limits, allot_short, fits, parts, allot_parts}
use Rattle.store.proofs.allots.allot.Goals as goal
use Rattle.store.proofs.allots.allot.Goals.{In_ok-rooms, After-from_residual, Else-not-m-map}

-- What is known of the rooms.
rooms : (c : In_ok-rooms) → let t = c.args in (c.in_ok-rooms.rooms ≡ rooms_of t.state.words t.state.keep) × (suits_by c.in_ok-rooms.rooms t.state t.heap.now ≡ true)
rooms c =
    let t = c.args in
    let ok : ◌≡◌ {A = Result Rooms Refusal} (Ok c.in_ok-rooms.rooms) (fitted t.state t.heap.now) = search rules in
    let k = fitted_ok t.state t.heap.now ok in
    (k.0, suits_tells t.state t.heap.now k.0 ∙ k.1)

-- Where there are none the refusal is that of the limits.
none : (c : After-from_residual) → let t = c.args in
    (r : Refusal) × (◌≡◌ {A = Result Rooms Refusal} (Err r) (fitted t.state t.heap.now)) × (c.from_residual.result ≡ Err (record { refusal = r; state = t.state }))
none c = search rules

pub returns-in_err-rooms : goal.returns-in_err-rooms
returns-in_err-rooms c =
    let t = c.args in
    let out = fitted_err t.state t.heap.now {refusal = (none c).0} (none c).1 in
    let needs : Rooms = rooms_of t.state.words t.state.keep in
    rw ((none c).2, out.0) (allot_limits t.state t.heap.now t.map.now t.list.now t.s t.p {rooms = needs} refl (rw (suits_tells t.state t.heap.now {rooms = needs} refl, out.1) refl))

pub returns-then-not-m-map : goal.returns-then-not-m-map
returns-then-not-m-map c =
    let t = c.args in
    let k = rooms (goal.at.returns-then-not-m-map c).In_ok-rooms in
    let same : c.refused.result ≡ record { refusal = Room; state = t.state } = search rules in
    rw same (allot_short t.state t.heap.now t.map.now t.list.now t.s t.p k.0 k.1 c.if-not-m-map.true)

-- The buffers are long enough.
are-long : (c : Else-not-m-map) → let t = c.args in let r = c.in_ok-rooms.rooms in (r.map ≤ length t.map.now) × (r.list ≤ length t.list.now)
are-long c =
    let t = c.args in
    let k = rooms (goal.at.Else-not-m-map c).In_ok-rooms in
    fits t.state t.heap.now t.map.now t.list.now t.s t.p k.0 k.1 c.if-not-m-map.false

pub slice_bounds-allot_in-end : goal.slice_bounds-allot_in-end
slice_bounds-allot_in-end c = (are-long (goal.at.slice_bounds-allot_in-end c).Else-not-m-map).0

pub slice_bounds-allot_in-end-2 : goal.slice_bounds-allot_in-end-2
slice_bounds-allot_in-end-2 c = sym (length-take-le _ _ (are-long (goal.at.slice_bounds-allot_in-end-2 c).Else-not-m-map).0)

pub slice_bounds-allot_in-end-3 : goal.slice_bounds-allot_in-end-3
slice_bounds-allot_in-end-3 c = (are-long (goal.at.slice_bounds-allot_in-end-3 c).Else-not-m-map).1

pub slice_bounds-allot_in-end-4 : goal.slice_bounds-allot_in-end-4
slice_bounds-allot_in-end-4 c = sym (length-take-le _ _ (are-long (goal.at.slice_bounds-allot_in-end-4 c).Else-not-m-map).1)

pub allot_in-requires : goal.allot_in-requires
allot_in-requires c =
    let t = c.args in
    let k = rooms (goal.at.allot_in-requires c).In_ok-rooms in
    parts t.state t.heap.now t.map.now t.list.now t.s t.p k.0 k.1 c.if-not-m-map.false

pub returns : goal.returns
returns c =
    let t = c.args in
    let k = rooms (goal.at.returns c).In_ok-rooms in
    allot_parts t.state t.heap.now t.map.now t.list.now t.s t.p k.0 k.1 c.if-not-m-map.false c.allot_in.ensures
