-- `hx_write`: the write's own outcome.
use Rattle.firmware.specs.CallsLaws.{write_short, write_crosses}
use Rattle.firmware.proofs.calls.hx_write.Goals as goal

pub returns-then-state-lt-STATE_ROOM : goal.returns-then-state-lt-STATE_ROOM
returns-then-state-lt-STATE_ROOM c = let t = c.args in rw c.number.ensures (write_short t.state.now t.heap.now t.map.now t.address t.field t.value c.if-state-lt-STATE_ROOM.true)

pub returns : goal.returns
returns c = let t = c.args in rw c.code.ensures (write_crosses t.state.now t.heap.now t.map.now t.address t.field t.value c.if-state-lt-STATE_ROOM.false c.state_in-was.ensures.value c.write-done.ensures)
