-- `Figures::of`: what is added up so far, with what is left, are the figures of the whole list.
use Prim.Native.Nat.{◌+◌, max}
use mathlib.Core.Path.{◌≡◌}
use lib.ListN.{drop}
use Rattle.freelist.specs.Figures.{largest}
use Rattle.freelist.specs.Records.{intervals}
use Rattle.runs.specs.Lists.{listed}
use Rattle.freelist.proofs.figures.Figures.of.Given as goal

abbrev pub invariant-loop-record : goal.invariant-loop-record
invariant-loop-record l =
    let all = intervals l.records in
    (listed all ≡ l.listed + listed (drop l.record-index all)) × (largest all ≡ max l.largest (largest (drop l.record-index all)))
