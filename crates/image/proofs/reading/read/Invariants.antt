-- `reading::read`: between two lines, those that are left decide what the text is.
use Rattle.std.proofs.Common.{◌-◌, ◌≡◌, length}
use Rattle.image.specs.ReadingLaws.{Between}
use Rattle.image.proofs.reading.read.Given as goal

abbrev pub invariant-loop-line : goal.invariant-loop-line
invariant-loop-line l = Between l.fn.text l.roots l.heap l.got l.lines.at × (l.lines.text.now ≡ l.fn.text) × (length l.roots ≡ length l.initial.roots) × (length l.heap ≡ length l.initial.heap)

abbrev pub decreases-loop-line : goal.decreases-loop-line
decreases-loop-line l = length l.fn.text - l.lines.at
