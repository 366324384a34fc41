-- `hx_allot`: the allot's own outcome, with its state and the address in words.
use Rattle.std.proofs.Common.{lit<, subst, sym}
use Prim.Native.Nat.{◌≤◌}
use lib.ListN.{length}
use Rattle.store.specs.Allot.{allot_told}
use Rattle.firmware.specs.Lent.{state_room}
use Rattle.firmware.specs.Fits.{StateFits, AllottedFits}
use Rattle.firmware.specs.LentLaws.{both_long}
use Rattle.firmware.specs.FitsLaws.{allot_fits}
use Rattle.firmware.specs.CallsLaws.{allot_short, allot_crosses}
use Rattle.firmware.proofs.calls.hx_allot.Goals as goal
use Rattle.firmware.proofs.calls.hx_allot.Goals.{After-allot-made, Else-not-state-answer}

-- State and answer are long enough.
long : (c : Else-not-state-answer) → let t = c.args in (state_room ≤ length t.state.now) × (1 ≤ length t.answer.now)
long c = let t = c.args in both_long t.state.now t.answer.now 1 c.if-not-state-answer.false

-- The numbers of the answer stand in words.
small : (c : After-allot-made) → AllottedFits (allot_told c.allot-made.result)
small c =
    let t = c.args in
    allot_fits t.heap.now t.map.now t.list.now t.size t.references c.state_in-was.ensures.fits c.allot-made.ensures

pub returns-then-not-state-answer : goal.returns-then-not-state-answer
returns-then-not-state-answer c =
    let t = c.args in
    rw c.number.ensures (allot_short t.state.now t.heap.now t.map.now t.list.now t.size t.references t.answer.now c.if-not-state-answer.true)

pub state_in-was-requires : goal.state_in-was-requires
state_in-was-requires c = (long c).0

pub allot-code-requires : goal.allot-code-requires
allot-code-requires c = small (goal.at.allot-code-requires c).After-allot-made

pub put_state-requires : goal.put_state-requires
put_state-requires c =
    let at = goal.at.put_state-requires c in
    ((long at.Else-not-state-answer).0, subst StateFits (sym c.allot-code.ensures.state) (small at.After-allot-made).state)

pub put-requires : goal.put-requires
put-requires c = (lit< tt, (long (goal.at.put-requires c).Else-not-state-answer).1)

pub returns : goal.returns
returns c =
    let t = c.args in
    let got = c.allot-code.ensures in
    rw got.code (allot_crosses t.state.now t.heap.now t.map.now t.list.now t.size t.references t.answer.now c.if-not-state-answer.false c.state_in-was.ensures.value c.allot-made.ensures (rw (← got.state) c.put_state.ensures) (rw (← got.address) c.put.ensures))
