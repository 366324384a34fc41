-- `free_lines`: with what is left to write, all is written.
use Rattle.std.proofs.Common.{drop}
use Rattle.freelist.specs.Records.{intervals}
use Rattle.report.specs.Printed.{free_lines}
use Rattle.report.specs.Written.{Writes}
use Rattle.report.specs.declared.put.Writer.{Writer}
use Rattle.report.proofs.free_lines.Given as goal

abbrev pub invariant-loop-record : goal.invariant-loop-record
invariant-loop-record l = (after : Writer) → Writes l.to (free_lines (drop l.record-index (intervals l.listed))) after → Writes l.fn.to (free_lines (intervals l.listed)) after
