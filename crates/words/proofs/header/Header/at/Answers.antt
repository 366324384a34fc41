-- `Header::at`: the two halves of the word.
use mathlib.Core.Path.{refl}
use Rattle.words.specs.Header.{size_at, refs_at}
use Rattle.words.proofs.header.Header.at.Goals as goal

pub returns : goal.returns
unfolding size_at refs_at
returns c = refl
