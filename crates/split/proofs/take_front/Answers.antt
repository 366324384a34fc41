-- `take_front`: nothing is left in front, so that the list does not grow.
use Prim.Native.Nat.{ℕ, ◌+◌, ◌-◌, ◌≤◌, ◌<◌}
use mathlib.Core.Path.{ap, ◌≡◌}
use native.Mathlib.Omega.{arith}
use Rattle.freelist.specs.Records.{records}
use Rattle.layout.specs.declared.Interval.{Interval}
use Rattle.runs.specs.Lists.{interval_at, end, sides, without_front}
use Rattle.split.specs.SidesLaws.{gave_same, read_at, in_place, in_read, front_sides, front_fits}
use Rattle.split.proofs.take_front.Goals as goal
use Rattle.split.proofs.take_front.Goals.{After-at-record}

abbrev front : After-at-record → ℕ
front c = (interval_at (records c.args.count c.args.list.now) c.args.j).start

-- The record is there, starts so, and has the words.
there : (c : After-at-record) → c.args.j < c.args.count
there c = let t = c.args in in_place t.count t.list.now (front c) t.s t.j c.requires.listed.1

starts : (c : After-at-record) → front c ≡ c.at-record.result.start
starts c = let t = c.args in ap (λ (i : Interval). i.start) (read_at t.count t.list.now t.j c.at-record.ensures.value (there c))

inside : (c : After-at-record) → let t = c.args in (front c ≡ c.at-record.result.start) × (front c + t.s ≤ end c.at-record.result)
inside c = let t = c.args in (starts c, (in_read t.count t.list.now t.j c.at-record.ensures.value (front c) t.s c.requires.listed.1).1)

-- What is worked out is left without them.
same : (c : After-at-record) → let t = c.args in
    sides t.keep 0 (c.at-record.result.start + t.s) (c.at-record.result.size - t.s) (records t.count t.list.now) t.j ≡ without_front t.keep t.s (records t.count t.list.now) t.j
same c = let t = c.args in front_sides t.count t.list.now t.j c.at-record.ensures.value t.keep t.s (there c) (omega (arith, inside c))

pub at-record-requires : goal.at-record-requires
at-record-requires c =
    let t = c.args in
    let there = in_place t.count t.list.now _ t.s t.j c.requires.listed.1 in
    omega (arith, there)

pub overflow_sub-right : goal.overflow_sub-right
overflow_sub-right c = omega (arith, inside c)

pub overflow_cast-next : goal.overflow_cast-next
overflow_cast-next c = omega (arith, inside (goal.at.overflow_cast-next c).After-at-record, c.requires.listed.0)

pub put_sides-requires : goal.put_sides-requires
put_sides-requires c =
    let t = c.args in
    let h = there (goal.at.put_sides-requires c).After-at-record in
    record { there = (h, omega arith); room = front_fits t.keep _ _ t.count t.list.now t.j (omega arith) h (omega arith) }

pub returns : goal.returns
returns c =
    let t = c.args in
    let gave = gave_same t.count t.list.now (same (goal.at.returns c).After-at-record) (c.put_sides.ensures.value, c.put_sides.ensures.list_after) in
    record { value = gave.0; list_after = gave.1 }
