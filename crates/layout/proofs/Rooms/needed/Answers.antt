-- `Rooms::needed`: within the limits every sum, quotient and product is small.
use Prim.Native.Nat.{◌-◌}
use mathlib.Core.Path.{refl}
use native.Mathlib.Nat.{div-le_self}
use native.Mathlib.Omega.{arith}
use Rattle.layout.specs.Limits.{within, map_words, stack_words, list_room, list_words, needed}
use Rattle.layout.specs.LimitsLaws.{Limits, limits, rooms_in}
use Rattle.layout.proofs.Rooms.needed.Goals as goal
use Rattle.layout.proofs.Rooms.needed.Goals.{Else-not-words-keep}

pub returns-then-not-words-keep : goal.returns-then-not-words-keep
unfolding within needed
returns-then-not-words-keep c = rw c.if-not-words-keep.true refl

inside : (c : Else-not-words-keep) → Limits c.args.words c.args.keep
unfolding within
inside c = limits _ _ c.if-not-words-keep.false

pub overflow_add-map : goal.overflow_add-map
overflow_add-map c = omega (arith, inside c)

pub overflow_sub-stack : goal.overflow_sub-stack
overflow_sub-stack c = (inside c).some

pub nonzero_div-stack : goal.nonzero_div-stack
nonzero_div-stack c = (inside c).keeps

pub overflow_mul-list : goal.overflow_mul-list
overflow_mul-list c = omega (arith, inside c, div-le_self (c.args.words - 1) c.args.keep)

pub returns : goal.returns
unfolding within map_words stack_words list_room list_words needed
returns c = rw (c.if-not-words-keep.false, rooms_in _ _ c.if-not-words-keep.false) refl
