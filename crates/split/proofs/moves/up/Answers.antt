-- `moves::up`: the words are copied two places higher, and the record is stored in the gap.
use Rattle.split.specs.MovesLaws.{rising_copied, rising_done}
use Rattle.split.proofs.moves.up.Goals as goal

pub returns : goal.returns
returns c = let t = c.args in rw (c.copy_within.ensures.after, rising_copied t.list.now t.at t.to c.requires.0) (rising_done t.list.now t.at t.to t.start t.size c.requires.0 c.requires.1)
