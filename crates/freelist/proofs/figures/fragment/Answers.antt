-- `fragment`: the quotient is at most 1000, since the largest interval is no more than all.
use Prim.Native.Nat.{◌*◌}
use mathlib.Core.Path.{◌≡◌}
use native.Mathlib.Nat.{div-le_of_le-mul}
use native.Mathlib.Omega.{arith}
use borrow.Author.Tests.{ne_eqb}
use Rattle.freelist.specs.Figures.{fragment_of}
use Rattle.freelist.proofs.figures.fragment.Goals as goal

pub returns-then-listed-eq0 : goal.returns-then-listed-eq0
unfolding fragment_of
returns-then-listed-eq0 c = let none : c.args.listed ≡ 0 = omega arith in rw none

pub overflow_sub-result : goal.overflow_sub-result
overflow_sub-result c = omega (arith, div-le_of_le-mul c.args.listed {m = 1000 * c.args.largest} {n = 1000} (omega arith))

pub returns : goal.returns
unfolding fragment_of
returns c = rw (ne_eqb c.args.listed 0 (λ e. omega arith))
