-- `reading::take_word`: the test is the definition's, and the value is stored at the address.
use Rattle.std.proofs.Common.{arith}
use Rattle.image.specs.SoFarLaws.{word_off, word_on}
use Rattle.image.proofs.reading.take_word.Goals as goal

pub returns-then-not-got-a : goal.returns-then-not-got-a
returns-then-not-got-a c = λ roots. word_off c.args.got c.in_ok-address.was roots c.args.heap.now (omega (arith, c.requires.1, c.args.got.words_in)) c.if-not-got-a.true

pub returns : goal.returns
returns c = λ roots. word_on c.args.got c.in_ok-address.was roots c.args.heap.now (omega (arith, c.requires.1, c.args.got.words_in)) c.if-not-got-a.false
