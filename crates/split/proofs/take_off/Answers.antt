-- `take_off`: the sides worked out are those of the cut.
use Prim.Native.Nat.{ℕ, ◌+◌, ◌-◌, ◌≤◌, ◌<◌}
use mathlib.Core.Path.{◌≡◌}
use native.Mathlib.Omega.{arith}
use Rattle.freelist.specs.Records.{records}
use Rattle.runs.specs.Lists.{end, sides, cut}
use Rattle.split.specs.SidesLaws.{gave_same, cut_sides, in_place, in_read}
use Rattle.split.proofs.take_off.Goals as goal
use Rattle.split.proofs.take_off.Goals.{After-at-record}

-- The record is there, and contains the words.
there : (c : After-at-record) → c.args.j < c.args.count
there c = let t = c.args in in_place t.count t.list.now t.a t.s t.j c.requires.listed.2

inside : (c : After-at-record) → let t = c.args in (c.at-record.result.start ≤ t.a) × (t.a + t.s ≤ end c.at-record.result)
inside c = let t = c.args in in_read t.count t.list.now t.j c.at-record.ensures.value t.a t.s c.requires.listed.2

-- The sides worked out are those of the cut.
same : (c : After-at-record) → let t = c.args in let left : ℕ = t.a - c.at-record.result.start in
    sides t.keep left (t.a + t.s) (c.at-record.result.size - left - t.s) (records t.count t.list.now) t.j ≡ cut t.keep t.a t.s (records t.count t.list.now) t.j
same c =
    let t = c.args in
    let left : ℕ = t.a - c.at-record.result.start in
    let k = inside c in
    cut_sides t.count t.list.now t.j c.at-record.ensures.value t.keep t.a t.s left (c.at-record.result.size - left - t.s) (there c) (omega arith) (omega arith)

pub at-record-requires : goal.at-record-requires
at-record-requires c =
    let t = c.args in
    let there = in_place t.count t.list.now t.a t.s t.j c.requires.listed.2 in
    omega (arith, there)

pub overflow_sub-left : goal.overflow_sub-left
overflow_sub-left c = omega (arith, inside c)

pub overflow_sub-right : goal.overflow_sub-right
overflow_sub-right c = omega (arith, inside c)

pub overflow_sub-right-2 : goal.overflow_sub-right-2
overflow_sub-right-2 c = omega (arith, inside c)

pub put_sides-requires : goal.put_sides-requires
put_sides-requires c = record { there = (there (goal.at.put_sides-requires c).After-at-record, omega arith); room = rw (same (goal.at.put_sides-requires c).After-at-record) c.requires.room }

pub returns : goal.returns
returns c =
    let t = c.args in
    let gave = gave_same t.count t.list.now (same (goal.at.returns c).After-at-record) (c.put_sides.ensures.value, c.put_sides.ensures.list_after) in
    record { value = gave.0; list_after = gave.1 }
