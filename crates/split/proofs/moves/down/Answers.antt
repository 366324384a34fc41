-- `moves::down`: the words are copied two places lower, and zeros are stored in the record that they leave.
use Rattle.split.specs.MovesLaws.{falling_copied, falling_done}
use Rattle.split.proofs.moves.down.Goals as goal

pub returns : goal.returns
returns c = let t = c.args in rw (c.copy_within.ensures.after, falling_copied t.list.now t.at t.n) (falling_done t.list.now t.at t.n c.requires)
