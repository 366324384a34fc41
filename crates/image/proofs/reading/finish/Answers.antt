-- `reading::finish`: the number of lines tells.
use Rattle.image.specs.SoFar.{shows}
use Rattle.image.specs.ReadingLaws.{ends_missing, ends_right}
use Rattle.image.proofs.reading.finish.Goals as goal

pub returns-then-got-lt2-clause-meaning : goal.returns-then-got-lt2-clause-meaning
returns-then-got-lt2-clause-meaning c = λ roots heap. rw c.next_wrong.ensures (ends_missing (shows c.args.got roots heap) c.if-got-lt2.true)

pub returns-clause-meaning : goal.returns-clause-meaning
returns-clause-meaning c = λ roots heap. ends_right (shows c.args.got roots heap) c.if-got-lt2.false
