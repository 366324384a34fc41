-- `Header::word`: the sum has 32 bits, so nothing of it is cut off.
use mathlib.Core.Path.{refl}
use Rattle.words.specs.Header.{header_word}
use Rattle.words.proofs.header.Header.word.Goals as goal

pub returns : goal.returns
unfolding header_word
returns c = refl
