-- `decimals::digits`: what the number read so far makes with the bytes left is what all of them make.
use Rattle.std.proofs.Common.{get_or, sym, ◌∙◌, arith}
use Rattle.image.specs.DecimalLaws.{digit_tested, number_in, digits_end, digits_stop, digits_over, digits_next}
use Rattle.image.proofs.decimals.digits.Goals as goal

pub returns-then-not-is_ascii_digit : goal.returns-then-not-is_ascii_digit
returns-then-not-is_ascii_digit c =
    let h = c.loop-byte in
    sym (sym h.invariant.1 ∙ digits_stop c.args.part.now h.n h.byte-index c.loop-byte-test.true (sym (digit_tested _) ∙ sym c.is_ascii_digit.ensures.value ∙ c.if-not-is_ascii_digit.true))

pub returns-then-n-gt4294967295 : goal.returns-then-n-gt4294967295
returns-then-n-gt4294967295 c =
    let h = c.loop-byte in
    let digit = sym (digit_tested (get_or c.args.part.now h.byte-index 0)) ∙ sym c.is_ascii_digit.ensures.value ∙ c.if-not-is_ascii_digit.false in
    sym (sym h.invariant.1 ∙ digits_over c.args.part.now h.n h.byte-index c.loop-byte-test.true digit (omega (arith, c.from.ensures)))

pub loop-byte-preserved : goal.loop-byte-preserved
loop-byte-preserved c =
    let h = c.loop-byte in
    let digit = sym (digit_tested (get_or c.args.part.now h.byte-index 0)) ∙ sym c.is_ascii_digit.ensures.value ∙ c.if-not-is_ascii_digit.false in
    let low = c.if-n-gt4294967295.false in
    (omega (arith, low), rw c.from.ensures (sym (digits_next c.args.part.now h.n h.byte-index c.loop-byte-test.true digit (omega (arith, low, c.from.ensures))) ∙ h.invariant.1))

pub returns : goal.returns
returns c =
    let h = c.loop-byte in
    c.ok.ensures.value ∙ number_in _ _ c.try_from.ensures h.invariant.0 ∙ sym (digits_end c.args.part.now h.n h.byte-index (omega arith)) ∙ h.invariant.1
