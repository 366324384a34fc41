-- `run`: at each turn what is left to run gives what the whole collection gives, and less is ahead.
use Rattle.machine.specs.RunLaws.{Turn}
use Rattle.machine.specs.Machine.{marking}
use Rattle.marking.specs.Invariant.{ahead}
use Rattle.machine.proofs.moves.run.Given as goal

abbrev pub invariant-loop : goal.invariant-loop
invariant-loop l = Turn l.initial.machine l.machine

abbrev pub decreases-loop : goal.decreases-loop
decreases-loop l = ahead l.machine.heap.now (marking l.machine)
