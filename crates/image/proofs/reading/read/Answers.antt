-- `reading::read`: between two lines, those that are left decide what the text is.
use Rattle.std.proofs.Common.{ℕ, ◌≡◌, ◌+◌, refl, ap, ◌∙◌, arith}
use Rattle.std.proofs.lemmas.Result.{err_from_is_err_and}
use Rattle.image.specs.declared.reading.WrongText.TheVariants.{Line}
use Rattle.image.specs.ReadingLaws.{text_long, text_begins, text_ends, line_stops, next_inside, line_goes}
use Rattle.image.proofs.reading.read.Goals as goal

pub returns-then-text-gt-MAX_TEXT-clause-meaning : goal.returns-then-text-gt-MAX_TEXT-clause-meaning
returns-then-text-gt-MAX_TEXT-clause-meaning c = text_long c.args.text.now c.if-text-gt-MAX_TEXT.true

pub loop-line-init : goal.loop-line-init
loop-line-init c =
    let t = c.args in
    let begins = text_begins t.text.now t.roots.now t.heap.now (c.none_read-got.ensures t.roots.now t.heap.now) (omega arith) c.requires.0 c.requires.1 in
    (rw c.new-lines.ensures.1 begins, rw c.new-lines.ensures.0 refl, refl, refl)

pub returns-in_err-got-clause-meaning : goal.returns-in_err-got-clause-meaning
returns-in_err-got-clause-meaning c =
    let h = c.loop-line.invariant in
    let t = c.take in
    let f = c.in_err-got.ensures in
    let p = err_from_is_err_and c.from_residual.result c.from_residual.ensures.1 in
    let told : c.next_wrong.result ≡ Line (c.loop-line.got.lines + 1) = c.next_wrong.ensures ∙ ap (λ (n : ℕ). Line n) (omega arith) in
    let late = rw (f.ok_part, told) at f.value in
    let number : c.in_err-got.field-0.0 ≡ Line (c.loop-line.got.lines + 1) = cc in
    let came = c.in-Some.ensures.moves in
    rw (p.1, p.2, number) (line_stops h.0 (rw h.1 at came.0) (rw h.1 at came.1) f.ok_part t.new.roots t.new.heap t.ensures)

pub loop-line-smaller : goal.loop-line-smaller
loop-line-smaller c =
    let h = c.loop-line.invariant in
    let t = c.take in
    let came = c.in-Some.ensures.moves in
    let inside = next_inside h.0 (rw h.1 at came.0) (rw h.1 at came.1) c.in_ok-got.ensures.ok_part t.new.roots t.new.heap t.ensures in
    omega (arith, inside, came.2)

pub loop-line-preserved : goal.loop-line-preserved
loop-line-preserved c =
    let h = c.loop-line.invariant in
    let t = c.take in
    let came = c.in-Some.ensures.moves in
    let goes = line_goes h.0 (rw h.1 at came.0) (rw h.1 at came.1) c.in_ok-got.ensures.ok_part t.new.roots t.new.heap t.ensures (omega (arith, t.auto.roots, h.0.root_room)) (omega (arith, t.auto.heap, h.0.word_room)) in
    (rw came.2 goes, rw c.in-Some.ensures.same_text h.1, t.auto.roots ∙ h.2, t.auto.heap ∙ h.3)

pub returns-clause-meaning : goal.returns-clause-meaning
returns-clause-meaning c =
    let h = c.loop-line.invariant in
    c.finish.ensures.meaning c.loop-line.roots c.loop-line.heap ∙ text_ends h.0 (rw h.1 at c.in_default.ensures.moves)
