-- `Header::is_formed`: the tests are those of the definition, and the sum is small.
use native.Mathlib.Omega.{arith}
use Rattle.words.proofs.HeaderLaws.{size_small}
use Rattle.words.specs.Header.{well_formed}
use Rattle.words.proofs.header.Header.is_formed.Goals as goal

pub overflow_add-result : goal.overflow_add-result
overflow_add-result c = let t = c.args in rw c.at-header.ensures (omega (arith, size_small t.heap.now t.a))

pub returns : goal.returns
unfolding well_formed
returns c = rw c.at-header.ensures
