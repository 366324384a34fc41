-- `records::below`: the words in pairs are the records.
use Rattle.std.proofs.Common.{arith}
use Rattle.freelist.specs.RecordsLaws.{pairs_records}
use Rattle.freelist.proofs.records.below.Goals as goal

pub returns : goal.returns
returns c = rw c.as_chunks.ensures.front (pairs_records c.args.count _ c.args.list.now (omega arith))
