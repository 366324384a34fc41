-- `collect`: each way out is a law of `collects`.
use Rattle.std.proofs.Common.{rules, ◌≡◌, refl, sym, ◌∙◌, true, ◌&&◌, ◌≤◌, length, leb, Ok, Err, Result, length-take-le, le-leb}
use Rattle.std.proofs.lemmas.Bool.{lt-leb}
use Rattle.layout.specs.Limits.{max_roots, rooms_of, fitted}
use Rattle.layout.specs.LimitsLaws.{fitted_ok, fitted_err, suits_by, suits_tells}
use Rattle.layout.specs.declared.Rooms.{Rooms}
use Rattle.layout.specs.declared.refusal.Refusal.{Refusal}
use Rattle.collector.proofs.CollectLaws.{three_fit, refuses_limits, refuses_short, parts, accepts}
use Rattle.collector.proofs.collect.Goals as goal
use Rattle.collector.proofs.collect.Goals.{In_ok-rooms, After-from_residual, Else-roots-gt-MAX_ROOTS, Else-not-m-map}

-- What is known of the rooms.
rooms : (c : In_ok-rooms) → let t = c.args in (c.in_ok-rooms.rooms ≡ rooms_of t.state.words t.state.keep) × (suits_by c.in_ok-rooms.rooms t.state t.heap.now ≡ true)
rooms c =
    let t = c.args in
    let ok : ◌≡◌ {A = Result Rooms Refusal} (Ok c.in_ok-rooms.rooms) (fitted t.state t.heap.now) = search rules in
    let k = fitted_ok t.state t.heap.now ok in
    (k.0, suits_tells t.state t.heap.now k.0 ∙ k.1)

-- Where there are none the refusal is that of the limits.
none : (c : After-from_residual) → let t = c.args in
    (r : Refusal) × (◌≡◌ {A = Result Rooms Refusal} (Err r) (fitted t.state t.heap.now)) × (c.from_residual.result ≡ Err (record { fault = record { refusal = r; place = 0 }; state = t.state }))
none c = search rules

pub returns-in_err-rooms : goal.returns-in_err-rooms
returns-in_err-rooms c =
    let t = c.args in
    let out = fitted_err t.state t.heap.now {refusal = (none c).0} (none c).1 in
    let needs : Rooms = rooms_of t.state.words t.state.keep in
    rw ((none c).2, out.0) (refuses_limits t.state t.heap.now t.roots.now t.map.now t.stack.now t.list.now {rooms = needs} refl (rw (suits_tells t.state t.heap.now {rooms = needs} refl, out.1) refl))

pub returns-then-roots-gt-MAX_ROOTS : goal.returns-then-roots-gt-MAX_ROOTS
returns-then-roots-gt-MAX_ROOTS c =
    let t = c.args in
    let k = rooms (goal.at.returns-then-roots-gt-MAX_ROOTS c).In_ok-rooms in
    rw c.early.ensures (refuses_limits t.state t.heap.now t.roots.now t.map.now t.stack.now t.list.now k.0 (rw (k.1, lt-leb (length t.roots.now) max_roots c.if-roots-gt-MAX_ROOTS.true) refl))

-- There are not too many roots.
few : (c : Else-roots-gt-MAX_ROOTS) → let t = c.args in suits_by c.in_ok-rooms.rooms t.state t.heap.now && leb (length t.roots.now) max_roots ≡ true
few c = rw ((rooms (goal.at.Else-roots-gt-MAX_ROOTS c).In_ok-rooms).1, le-leb (length c.args.roots.now) max_roots c.if-roots-gt-MAX_ROOTS.false) refl

pub returns-then-not-m-map : goal.returns-then-not-m-map
returns-then-not-m-map c =
    let t = c.args in
    let at = goal.at.returns-then-not-m-map c in
    rw c.early-then-not-m-map.ensures
    (refuses_short t.state t.heap.now t.roots.now t.map.now t.stack.now t.list.now (rooms at.In_ok-rooms).0 (few at.Else-roots-gt-MAX_ROOTS) c.if-not-m-map.true)

-- The buffers are long enough.
fits : (c : Else-not-m-map) → let t = c.args in let r = c.in_ok-rooms.rooms in (r.map ≤ length t.map.now) × (r.stack ≤ length t.stack.now) × (r.list ≤ length t.list.now)
fits c = let t = c.args in three_fit t.map.now t.stack.now t.list.now c.if-not-m-map.false

pub slice_bounds-collect_in-end : goal.slice_bounds-collect_in-end
slice_bounds-collect_in-end c = (fits c).0

pub slice_bounds-collect_in-end-2 : goal.slice_bounds-collect_in-end-2
slice_bounds-collect_in-end-2 c = sym (length-take-le _ _ (fits (goal.at.slice_bounds-collect_in-end-2 c).Else-not-m-map).0)

pub slice_bounds-collect_in-end-3 : goal.slice_bounds-collect_in-end-3
slice_bounds-collect_in-end-3 c = (fits (goal.at.slice_bounds-collect_in-end-3 c).Else-not-m-map).1

pub slice_bounds-collect_in-end-4 : goal.slice_bounds-collect_in-end-4
slice_bounds-collect_in-end-4 c = sym (length-take-le _ _ (fits (goal.at.slice_bounds-collect_in-end-4 c).Else-not-m-map).1)

pub slice_bounds-collect_in-end-5 : goal.slice_bounds-collect_in-end-5
slice_bounds-collect_in-end-5 c = (fits (goal.at.slice_bounds-collect_in-end-5 c).Else-not-m-map).2

pub slice_bounds-collect_in-end-6 : goal.slice_bounds-collect_in-end-6
slice_bounds-collect_in-end-6 c = sym (length-take-le _ _ (fits (goal.at.slice_bounds-collect_in-end-6 c).Else-not-m-map).2)

pub collect_in-requires : goal.collect_in-requires
collect_in-requires c =
    let t = c.args in
    let at = goal.at.collect_in-requires c in
    parts t.state t.heap.now t.roots.now t.map.now t.stack.now t.list.now (rooms at.In_ok-rooms).0 (few at.Else-roots-gt-MAX_ROOTS) c.if-not-m-map.false

pub returns : goal.returns
returns c =
    let t = c.args in
    let at = goal.at.returns c in
    accepts t.state t.heap.now t.roots.now t.map.now t.stack.now t.list.now (rooms at.In_ok-rooms).0 (few at.Else-roots-gt-MAX_ROOTS) c.if-not-m-map.false c.collect_in.ensures
