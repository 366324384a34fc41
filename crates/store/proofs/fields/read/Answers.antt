-- `read`: a field that is not refused lies in the heap.
use Rattle.std.proofs.Common.{rules, ◌≡◌, refl, ◌∙◌, arith}
use Rattle.layout.specs.Refusal.{number}
use Rattle.layout.specs.RefusalLaws.{number_some}
use Rattle.store.specs.Fields.{read_told}
use Rattle.store.proofs.FieldsLaws.{Field, field, read_refused, read_given}
use Rattle.store.proofs.fields.read.Goals as goal
use Rattle.store.proofs.fields.read.Goals.{In_ok-word}

-- The field can be had.
known : (c : In_ok-word) → let t = c.args in Field t.heap.now t.map.now t.a t.k
known c = let t = c.args in field t.state t.heap.now t.map.now t.a t.k c.in_ok-word.ensures.code refl

pub returns-in_err-word : goal.returns-in_err-word
returns-in_err-word c =
    let t = c.args in
    let refusal = c.in_err-word.field-0.0 in
    let told : read_told c.from_residual.result ≡ record { code = number refusal; value = 0 } = search rules in
    told ∙ read_refused t.state t.heap.now t.map.now t.a t.k c.in_err-word.ensures.code (λ none. omega (arith, number_some refusal))

pub offset_bounds-heap-word : goal.offset_bounds-heap-word
offset_bounds-heap-word c = omega (arith, known c, c.in_ok-word.ensures.word)

pub bounds-heap-word : goal.bounds-heap-word
bounds-heap-word c = rw c.in_ok-word.ensures.word (known (goal.at.bounds-heap-word c).In_ok-word).there

pub returns : goal.returns
returns c = let t = c.args in rw c.in_ok-word.ensures.word (read_given t.state t.heap.now t.map.now t.a t.k c.in_ok-word.ensures.code refl)
