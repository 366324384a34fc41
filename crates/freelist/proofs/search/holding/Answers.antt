-- `search::holding`: the records are parted by where they start, and the last of the first part is the one to look at.
use Prim.Native.Nat.{ℕ, suc, ◌+◌, ◌≤◌, ◌<◌}
use Rattle.std.specs.Prelude.{None, Some}
use Rattle.std.proofs.Common.{rules, arith, ◌≡◌, sym, ◌∙◌, Bool, cond, length, leb}
use Rattle.std.proofs.lemmas.List.Sorted.{IsPartitionPoint-from_clause}
use borrow.Author.Tests.{le-leb, lt-leb}
use Rattle.runs.specs.Lists.{interval_at, end}
use Rattle.freelist.specs.Records.{intervals}
use Rattle.freelist.specs.RecordsLaws.{length-intervals, interval_pair}
use Rattle.freelist.specs.Search.{contains, holder}
use Rattle.freelist.specs.SearchLaws.{starts_by, pairs_parted, pairs_point, holding_none, holder_left}
use Rattle.freelist.proofs.search.holding.Goals as goal
use Rattle.freelist.proofs.search.holding.Goals.{After-partition_point-behind, After-interval-record}

-- What is known of the intervals on both sides of the place between the two parts.
parts : (c : After-partition_point-behind) → let t = c.args in let l = intervals t.records.now in let b = c.partition_point-behind.result in
    ((j : ℕ) → j < b → j < length t.records.now → (interval_at l j).start ≤ t.a) × (b < length t.records.now → t.a < (interval_at l b).start)
parts c =
    let t = c.args in
    let parted = pairs_parted t.a t.records.now c.requires.1 in
    pairs_point t.a t.records.now c.partition_point-behind.result (IsPartitionPoint-from_clause (starts_by t.a) _ _ c.partition_point-behind.ensures.partitioned parted (λ a r q k. search rules))

pub returns-in_err-j : goal.returns-in_err-j
returns-in_err-j c =
    let t = c.args in
    let none : (c.partition_point-behind.result ≡ 0) × (c.from_residual.result ≡ None) = search rules in
    let p = rw none.0 at (parts (goal.at.returns-in_err-j c).After-partition_point-behind) in
    rw none.1 (sym (holding_none t.a t.s (intervals t.records.now) c.requires.1 (λ some. p.1 (omega (arith, some, length-intervals t.records.now)))))

-- The record in hand is the only one left to look at.
left : (test : Bool) (c : After-interval-record) → let t = c.args in leb (t.a + t.s) (end c.interval-record.result) ≡ test → holder t.a t.s (intervals t.records.now) ≡ cond test (Some c.in_ok-j.j) None
left test c e =
    let t = c.args in
    let l = intervals t.records.now in
    let j : ℕ = c.in_ok-j.j in
    let b : ℕ = c.partition_point-behind.result in
    let next : b ≡ suc j = search rules in
    let inside : j < length t.records.now = omega (arith, next, c.partition_point-behind.ensures.bound) in
    let p = parts (goal.at.After-interval-record c).After-partition_point-behind in
    let here : c.interval-record.result ≡ interval_at l j = c.interval-record.ensures.value ∙ sym (interval_pair t.records.now j _ inside) in
    let start : (interval_at l j).start ≤ t.a = p.0 j (omega arith) inside in
    let held : contains t.a t.s (interval_at l j) ≡ test = rw (← here, le-leb c.interval-record.result.start t.a (rw here start)) e in
    rw (← held) (holder_left t.a t.s l j b c.requires.1 (omega (arith, inside, length-intervals t.records.now)) (omega arith) (λ _. start) (λ more. p.1 (omega (arith, more, length-intervals t.records.now))))

pub returns-then-a-s : goal.returns-then-a-s
returns-then-a-s c = sym (left _ (goal.at.returns-then-a-s c).After-interval-record (le-leb _ _ c.if-a-s.true))

pub returns-else-a-s : goal.returns-else-a-s
returns-else-a-s c = sym (left _ (goal.at.returns-else-a-s c).After-interval-record (lt-leb _ _ c.if-a-s.false))
