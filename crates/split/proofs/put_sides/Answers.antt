-- `put_sides`: the four cases, each by its law.
use Prim.Native.Nat.{◌-◌, ◌*◌}
use native.Mathlib.Omega.{arith}
use lib.ListN.{length-set}
use Rattle.split.specs.SidesLaws.{both_sides, left_side, right_side, no_side}
use Rattle.split.proofs.put_sides.Goals as goal

pub up-requires : goal.up-requires
up-requires c = let t = c.args in omega (arith, (both_sides t.keep t.left t.next t.right t.count t.list.now t.j (omega arith) (omega arith) (omega arith) (omega arith)).0)

pub returns-then-keep-right : goal.returns-then-keep-right
returns-then-keep-right c =
    let t = c.args in
    let gave = both_sides t.keep t.left t.next t.right t.count t.list.now t.j (omega arith) (omega arith) (omega arith) (omega arith) in
    record { value = gave.0; list_after = rw c.up.ensures gave.1 }

pub returns-then-keep-left : goal.returns-then-keep-left
returns-then-keep-left c =
    let t = c.args in
    let gave = left_side t.keep t.left t.next t.right t.count t.list.now t.j (omega arith) (omega arith) (omega arith) (omega arith) in
    record { value = gave.0; list_after = gave.1 }

pub bounds-list-at-then-keep-right-2-2 : goal.bounds-list-at-then-keep-right-2-2
bounds-list-at-then-keep-right-2-2 c = simp length-set (omega arith)

pub returns-then-keep-right-2 : goal.returns-then-keep-right-2
returns-then-keep-right-2 c =
    let t = c.args in
    let gave = right_side t.keep t.left t.next t.right t.count t.list.now t.j (omega arith) (omega arith) (omega arith) (omega arith) in
    record { value = gave.0; list_after = gave.1 }

pub returns : goal.returns
returns c =
    let t = c.args in
    let gave = no_side t.keep t.left t.next t.right t.count t.list.now t.j (omega arith) (omega arith) (omega arith) (omega arith) (2 * (t.count - t.j - 1)) (t.count - 1) (omega arith) (omega arith) in
    record { value = gave.0; list_after = rw c.down.ensures gave.1 }
