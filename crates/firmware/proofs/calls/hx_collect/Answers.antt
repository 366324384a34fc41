-- `hx_collect`: the collection's own outcome, with its state and its answer in words.
use Rattle.std.proofs.Common.{ℕ, List, ap, ◌∙◌, lit<}
use Rattle.firmware.specs.Lent.{fronted}
use Prim.Native.Nat.{◌≤◌}
use lib.ListN.{length}
use Rattle.collector.specs.Collect.{collect_told}
use Rattle.firmware.specs.Lent.{state_room}
use Rattle.firmware.specs.Fits.{CollectedFits}
use Rattle.firmware.specs.LentLaws.{both_long}
use Rattle.firmware.specs.FitsLaws.{collect_fits}
use Rattle.firmware.specs.CallsLaws.{collect_short, collect_crosses}
use Rattle.firmware.proofs.calls.hx_collect.Goals as goal
use Rattle.firmware.proofs.calls.hx_collect.Goals.{After-collect-found, Else-not-state-answer}

-- State and answer are long enough.
long : (c : Else-not-state-answer) → let t = c.args in (state_room ≤ length t.state.now) × (5 ≤ length t.answer.now)
long c = let t = c.args in both_long t.state.now t.answer.now 5 c.if-not-state-answer.false

-- The numbers of the answer stand in words.
small : (c : After-collect-found) → CollectedFits (collect_told c.collect-found.result)
small c =
    let t = c.args in
    collect_fits t.heap.now t.roots.now t.map.now t.stack.now t.list.now c.state_in-was.ensures.fits (λ i. (c.type_inv.heap i).fits) (λ i. (c.type_inv.roots i).fits) c.collect-found.ensures

pub returns-then-not-state-answer : goal.returns-then-not-state-answer
returns-then-not-state-answer c =
    let t = c.args in
    rw c.number.ensures (collect_short t.state.now t.heap.now t.roots.now t.map.now t.stack.now t.list.now t.answer.now c.if-not-state-answer.true)

pub state_in-was-requires : goal.state_in-was-requires
state_in-was-requires c = (long c).0

pub collect-code-requires : goal.collect-code-requires
collect-code-requires c = small (goal.at.collect-code-requires c).After-collect-found

pub put_state-requires : goal.put_state-requires
put_state-requires c =
    let at = goal.at.put_state-requires c in
    ((long at.Else-not-state-answer).0, rw c.collect-code.ensures.state (small at.After-collect-found).state)

pub put-requires : goal.put-requires
put-requires c = (lit< tt, (long (goal.at.put-requires c).Else-not-state-answer).1)

pub returns : goal.returns
returns c =
    let t = c.args in
    let got = c.collect-code.ensures in
    rw got.code (collect_crosses t.state.now t.heap.now t.roots.now t.map.now t.stack.now t.list.now t.answer.now c.if-not-state-answer.false c.state_in-was.ensures.value c.collect-found.ensures (rw (← got.state) c.put_state.ensures) (c.put.ensures ∙ ap (λ (w : List ℕ). fronted w t.answer.now) got.words))
