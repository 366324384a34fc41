-- `hx_set_up`: set-up's own outcome, with its state in words.
use Rattle.firmware.specs.CallsLaws.{set_up_short, set_up_crosses}
use Rattle.firmware.specs.FitsLaws.{set_up_fits}
use Rattle.firmware.proofs.calls.hx_set_up.Goals as goal

pub returns-then-state-lt-STATE_ROOM : goal.returns-then-state-lt-STATE_ROOM
returns-then-state-lt-STATE_ROOM c = let t = c.args in rw c.number.ensures (set_up_short t.heap.now t.keep t.map.now t.list.now t.state.now c.if-state-lt-STATE_ROOM.true)

pub put_state-requires : goal.put_state-requires
put_state-requires c = let t = c.args in (c.if-state-lt-STATE_ROOM.false, rw c.set_up-code.ensures.state (set_up_fits t.heap.now t.keep t.map.now t.list.now c.set_up.ensures))

pub returns : goal.returns
returns c =
    let t = c.args in
    rw c.set_up-code.ensures.code (set_up_crosses t.heap.now t.keep t.map.now t.list.now t.state.now c.if-state-lt-STATE_ROOM.false c.set_up.ensures (rw (← c.set_up-code.ensures.state) c.put_state.ensures))
