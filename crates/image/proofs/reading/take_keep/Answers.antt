-- `reading::take_keep`: the test is the definition's.
use Rattle.image.specs.SoFarLaws.{keep_off, keep_on}
use Rattle.image.proofs.reading.take_keep.Goals as goal

pub returns-then-not-got-keep : goal.returns-then-not-got-keep
returns-then-not-got-keep c = λ roots heap. keep_off c.args.got c.in_ok-keep.was roots heap c.if-not-got-keep.true

pub returns : goal.returns
returns c = λ roots heap. keep_on c.args.got c.in_ok-keep.was roots heap c.if-not-got-keep.false
