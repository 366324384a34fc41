-- `Rooms::of`: the figures within the limits, and zeros out of them.
use Rattle.std.proofs.Common.{rules}
use Rattle.layout.specs.Limits.{rooms_of, needed}
use Rattle.layout.proofs.Rooms.of.Goals as goal

pub returns : goal.returns
unfolding needed rooms_of
returns c = search rules
