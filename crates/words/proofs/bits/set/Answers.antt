-- `bits::set`: joining the bit's power of two to the word sets the bit.
use Rattle.words.proofs.MapLaws.{shift_sets}
use Rattle.words.proofs.bits.set.Goals as goal

pub returns : goal.returns
returns c = shift_sets c.args.map.now c.args.a
