-- `hx_list_words`: the figure is a 32-bit number.
use native.Mathlib.Omega.{arith}
use Rattle.layout.specs.LimitsLaws.{rooms_small}
use Rattle.firmware.proofs.hx_list_words.Goals as goal

pub overflow_cast-result : goal.overflow_cast-result
overflow_cast-result c = let t = c.args in rw c.of-rooms.ensures (omega (arith, rooms_small t.words t.keep))

pub returns : goal.returns
returns c = rw c.of-rooms.ensures
