-- `line::line_in`: behind the text's end there is no line, and else it is a front of the rest.
use Rattle.std.proofs.Common.{arith, sym, length-drop}
use Rattle.image.specs.LinesLaws.{line_missing, line_part}
use Rattle.image.proofs.line.line_in.Goals as goal

pub returns-in_default : goal.returns-in_default
returns-in_default c = sym (line_missing _ (λ inside. omega (arith, c.in_default.ensures.lookup.0, length-drop c.args.at c.args.text.now)))

pub returns : goal.returns
returns c = line_part c.args.text.now c.args.at c.in-Some.ensures.lookup.0.2 c.line_end.ensures.1
