-- `hx_map_words`: the figure is a 32-bit number, and 0 only out of the limits.
use mathlib.Core.Path.{ap}
use native.Mathlib.Omega.{arith}
use Rattle.layout.specs.LimitsLaws.{rooms_small, map_zero}
use Rattle.layout.specs.declared.Rooms.{Rooms}
use Rattle.firmware.proofs.hx_map_words.Goals as goal

pub overflow_cast-result : goal.overflow_cast-result
overflow_cast-result c = let t = c.args in rw c.of-rooms.ensures (omega (arith, rooms_small t.words t.keep))

pub returns : goal.returns
returns c = record { value = ap (λ (r : Rooms). r.map) c.of-rooms.ensures; zero_outside = map_zero _ _ c.of-rooms.ensures }
