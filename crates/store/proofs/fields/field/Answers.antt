-- `field`: its tests, in their order, are those of `field_code`.
use Rattle.std.proofs.Common.{rules, ◌≡◌, refl, ◌∙◌, true, arith}
use Rattle.layout.specs.LimitsLaws.{fitted_ok, fitted_err, suits_by, suits_tells}
use Rattle.layout.specs.Limits.{rooms_of}
use Rattle.layout.specs.Refusal.{code_told}
use Rattle.layout.specs.declared.Rooms.{Rooms}
use Rattle.store.specs.Fields.{field_code}
use Rattle.store.proofs.FieldsLaws.{Field, code_limits, code_map, code_object, enough_bits, field}
use Rattle.store.proofs.fields.field.Goals as goal
use Rattle.store.proofs.fields.field.Goals.{In_ok-rooms, In_ok-object}

-- What is known of the rooms.
rooms : (c : In_ok-rooms) → let t = c.args in (c.in_ok-rooms.rooms ≡ rooms_of t.state.words t.state.keep) × (suits_by c.in_ok-rooms.rooms t.state t.heap.now ≡ true)
rooms c = let t = c.args in let k = fitted_ok t.state t.heap.now c.in_ok-rooms.ensures in (k.0, suits_tells t.state t.heap.now k.0 ∙ k.1)

pub returns-in_err-rooms-clause-code : goal.returns-in_err-rooms-clause-code
returns-in_err-rooms-clause-code c =
    let t = c.args in
    let no = fitted_err t.state t.heap.now c.in_err-rooms.ensures in
    let told : code_told c.from_residual.result ≡ 1 = search (rules, no.0) in
    let needs : Rooms = rooms_of t.state.words t.state.keep in
    told ∙ code_limits t.state t.heap.now t.map.now t.a t.k {rooms = needs} refl (rw (suits_tells t.state t.heap.now {rooms = needs} refl, no.1) refl)

pub returns-then-map-rooms-clause-code : goal.returns-then-map-rooms-clause-code
returns-then-map-rooms-clause-code c =
    let t = c.args in
    let k = rooms (goal.at.returns-then-map-rooms-clause-code c).In_ok-rooms in
    code_map t.state t.heap.now t.map.now t.a t.k k.0 k.1 c.if-map-rooms.true

pub object-requires : goal.object-requires
object-requires c =
    let t = c.args in
    let k = rooms (goal.at.object-requires c).In_ok-rooms in
    enough_bits t.state t.heap.now t.map.now t.a t.k k.0 k.1 c.if-map-rooms.false

pub returns-in_err-object-clause-code : goal.returns-in_err-object-clause-code
returns-in_err-object-clause-code c =
    let t = c.args in
    let k = rooms (goal.at.returns-in_err-object-clause-code c).In_ok-rooms in
    let told : code_told c.from_residual-in_err-object.result ≡ code_told c.object.result = search rules in
    told ∙ code_object t.state t.heap.now t.map.now t.a t.k k.0 k.1 c.if-map-rooms.false c.object.ensures

-- The number is 0.
none : (c : In_ok-object) → let t = c.args in 0 ≡ field_code t.state t.heap.now t.map.now t.a t.k
none c =
    let t = c.args in
    let k = rooms (goal.at.In_ok-object c).In_ok-rooms in
    code_object t.state t.heap.now t.map.now t.a t.k k.0 k.1 c.if-map-rooms.false c.in_ok-object.ensures

-- So the field can be had.
known : (c : In_ok-object) → let t = c.args in Field t.heap.now t.map.now t.a t.k
known c = let t = c.args in field t.state t.heap.now t.map.now t.a t.k (none c) refl

pub overflow_add-result : goal.overflow_add-result
overflow_add-result c = omega (arith, known c)

pub overflow_add-result-2 : goal.overflow_add-result-2
overflow_add-result-2 c = omega (arith, known c)

pub returns-clause-code : goal.returns-clause-code
returns-clause-code c = none c
