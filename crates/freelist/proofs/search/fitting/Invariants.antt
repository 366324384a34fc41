-- `search::fitting`: what the search finds in the whole list it finds from record j on.
use Rattle.std.proofs.Common.{◌≡◌, drop}
use Rattle.freelist.specs.Records.{intervals}
use Rattle.freelist.specs.Search.{first_from, fits, fitting}
use Rattle.freelist.proofs.search.fitting.Given as goal

abbrev pub invariant-loop-j : goal.invariant-loop-j
invariant-loop-j l = fitting l.s (intervals l.records) ≡ first_from (fits l.s) l.j (drop l.j (intervals l.records))
