-- `bits::is_start`: the two tests of the address and the bit are those of the definition.
use mathlib.Core.Path.{◌≡◌}
use mathlib.Core.Bool.{true, false, ◌&&◌, and-eq-true_iff}
use native.Mathlib.Omega.{arith}
use lib.Dec.{ltb}
use borrow.Author.Tests.{ltb-true}
use Rattle.words.specs.Map.{is_start}
use Rattle.words.proofs.bits.is_start.Goals as goal
use Rattle.words.proofs.bits.is_start.Goals.{Else-not-a-words}

-- The address is in 1..H-1.
inside : (c : Else-not-a-words) → let t = c.args in ltb 0 t.a && ltb t.a t.words ≡ true
inside c = c.if-not-a-words.false

pub returns-then-not-a-words : goal.returns-then-not-a-words
unfolding is_start
returns-then-not-a-words c =
    let t = c.args in
    let out : ltb 0 t.a && ltb t.a t.words ≡ false = c.if-not-a-words.true in
    rw out

pub is_set-requires : goal.is_set-requires
is_set-requires c =
    let t = c.args in
    omega (arith, c.requires, ltb-true t.a t.words ((and-eq-true_iff (ltb 0 t.a) _).0 (inside c)).1)

pub returns : goal.returns
unfolding is_start
returns c = rw (inside (goal.at.returns c).Else-not-a-words, c.is_set.ensures)
