-- `bits::is_set`: the test is the definition of the bit.
use mathlib.Core.Path.{refl}
use Rattle.words.specs.Map.{bit_at}
use Rattle.words.proofs.bits.is_set.Goals as goal

pub returns : goal.returns
unfolding bit_at
returns c = refl
