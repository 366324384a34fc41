-- `records::are_valid`: what the rule says of all records is what it says of those left, from the end of the last one on.
use mathlib.Core.Path.{◌≡◌}
use lib.ListN.{drop}
use Rattle.freelist.specs.Records.{records, in_order, valid_list}
use Rattle.freelist.proofs.records.are_valid.Given as goal

abbrev pub invariant-loop-record : goal.invariant-loop-record
invariant-loop-record l = valid_list l.words l.keep l.count l.list ≡ in_order l.keep l.words l.end (drop l.record-index (records l.count l.list))
