-- `run`: at each turn what is left to run gives what the whole collection gives, and less is ahead.
use Rattle.std.proofs.Common.{rules, ◌≡◌, refl, ap, Ok, Err}
use Rattle.machine.specs.RunLaws.{turn_first, turn_less, turn_next, same_buffers, ran_done, ran_refused}
use Rattle.machine.proofs.moves.run.Goals as goal

pub loop-init : goal.loop-init
loop-init c = turn_first _ c.requires (search rules)

pub loop-smaller : goal.loop-smaller
loop-smaller c = turn_less c.loop.invariant c.in_ok-advance.ensures (ap Ok c.if-branch.true)

pub loop-preserved : goal.loop-preserved
loop-preserved c = turn_next c.loop.invariant c.in_ok-advance.ensures (ap Ok c.if-branch.true)

pub returns-in_err-advance : goal.returns-in_err-advance
returns-in_err-advance c =
    let same = same_buffers c.loop.invariant c.in_err-advance.ensures in
    let e : c.from_residual.result ≡ Err c.in_err-advance.field-0.0 = search rules in
    rw e (ran_refused c.loop.invariant c.in_err-advance.ensures (search rules) (search rules) (search rules) refl)

pub returns : goal.returns
returns c =
    let same = same_buffers c.loop.invariant c.in_ok-advance.ensures in
    ran_done c.loop.invariant c.in_ok-advance.ensures (search rules) (search rules) (search rules) (ap Ok c.if-branch.false)
