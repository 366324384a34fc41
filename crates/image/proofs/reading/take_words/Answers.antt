-- `reading::take_words`: the test is the definition's, and the front that is cleared is the heap.
use Rattle.std.proofs.Common.{arith}
use Rattle.image.specs.SoFarLaws.{words_fit, words_off, words_on}
use Rattle.image.proofs.reading.take_words.Goals as goal

pub returns-then-not-got-words : goal.returns-then-not-got-words
returns-then-not-got-words c = λ roots. words_off c.args.got c.in_ok-words.was roots c.args.heap.now c.if-not-got-words.true

pub returns : goal.returns
returns c =
    let given = c.in_ok-words.was in
    let test = c.if-not-got-words.false in
    λ roots. words_on c.args.got given roots c.args.heap.now test (omega (arith, words_fit c.args.got given test, c.requires)) (c.fill.ensures.after (λ y e. e))
