-- `State::rooms`: the test of the limits, and that of the heap's length.
use Rattle.std.proofs.Common.{rules}
use Rattle.layout.specs.Limits.{needed, fitted, suits}
use Rattle.layout.proofs.State.rooms.Goals as goal

pub returns-in_err-rooms : goal.returns-in_err-rooms
unfolding needed fitted suits
returns-in_err-rooms c = search rules

pub returns-then-heap-self : goal.returns-then-heap-self
unfolding needed fitted suits
returns-then-heap-self c = search rules

pub returns-else-heap-self : goal.returns-else-heap-self
unfolding needed fitted suits
returns-else-heap-self c = search rules
