-- `write`: a field that is not refused lies in the heap, and each way out is a law of `writes`.
use Rattle.std.proofs.Common.{rules, ◌≡◌, refl, arith}
use Rattle.layout.specs.Refusal.{number, code_told}
use Rattle.layout.specs.RefusalLaws.{number_some}
use Rattle.store.proofs.FieldsLaws.{Field, field, write_refused, write_untaken, write_stored}
use Rattle.store.proofs.fields.write.Goals as goal
use Rattle.store.proofs.fields.write.Goals.{In_ok-at}

-- The field can be had.
known : (c : In_ok-at) → let t = c.args in Field t.heap.now t.map.now t.a t.k
known c = let t = c.args in field t.state t.heap.now t.map.now t.a t.k c.in_ok-at.ensures.code refl

pub returns-in_err-at : goal.returns-in_err-at
returns-in_err-at c =
    let t = c.args in
    let refusal = c.in_err-at.field-0.0 in
    let told : code_told c.from_residual.result ≡ number refusal = search rules in
    rw told (write_refused t.state t.heap.now t.map.now t.a t.k c.in_err-at.ensures.code t.v (λ none. omega (arith, number_some refusal)))

pub takes-requires : goal.takes-requires
takes-requires c = let f = known c in (f.bits, omega (arith, f.there))

pub returns-then-not-takes : goal.returns-then-not-takes
returns-then-not-takes c = let t = c.args in write_untaken t.state t.heap.now t.map.now t.a t.k c.in_ok-at.ensures.code t.v refl c.takes.ensures c.if-not-takes.true

pub offset_bounds-heap-at : goal.offset_bounds-heap-at
offset_bounds-heap-at c = omega (arith, known (goal.at.offset_bounds-heap-at c).In_ok-at, c.in_ok-at.ensures.word)

pub bounds-heap-at : goal.bounds-heap-at
bounds-heap-at c = rw c.in_ok-at.ensures.word (known (goal.at.bounds-heap-at c).In_ok-at).there

pub returns : goal.returns
returns c = let t = c.args in rw c.in_ok-at.ensures.word (write_stored t.state t.heap.now t.map.now t.a t.k c.in_ok-at.ensures.code t.v refl c.takes.ensures c.if-not-takes.false)
