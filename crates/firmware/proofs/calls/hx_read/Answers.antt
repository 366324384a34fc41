-- `hx_read`: the read's own answer, with the value in a word.
use Rattle.std.proofs.Common.{lit<}
use Prim.Native.Nat.{◌≤◌}
use lib.ListN.{length}
use Rattle.firmware.specs.Lent.{state_room}
use Rattle.firmware.specs.LentLaws.{both_long}
use Rattle.firmware.specs.CallsLaws.{read_short, read_crosses}
use Rattle.firmware.proofs.calls.hx_read.Goals as goal
use Rattle.firmware.proofs.calls.hx_read.Goals.{Else-not-state-answer}

-- State and answer are long enough.
long : (c : Else-not-state-answer) → let t = c.args in (state_room ≤ length t.state.now) × (1 ≤ length t.answer.now)
long c = let t = c.args in both_long t.state.now t.answer.now 1 c.if-not-state-answer.false

pub returns-then-not-state-answer : goal.returns-then-not-state-answer
returns-then-not-state-answer c =
    let t = c.args in
    rw c.number.ensures (read_short t.state.now t.heap.now t.map.now t.address t.field t.answer.now c.if-not-state-answer.true)

pub state_in-was-requires : goal.state_in-was-requires
state_in-was-requires c = (long c).0

pub put-requires : goal.put-requires
put-requires c = (lit< tt, (long (goal.at.put-requires c).Else-not-state-answer).1)

pub returns : goal.returns
returns c =
    let t = c.args in
    let got = c.read-code.ensures in
    rw got.code (read_crosses t.state.now t.heap.now t.map.now t.address t.field t.answer.now c.if-not-state-answer.false c.state_in-was.ensures.value c.read-got.ensures (rw (← got.value) c.put.ensures))
