-- `line::line_end`: the search goes just as far as an LF comes in time.
use Rattle.std.proofs.Common.{sym, ◌∙◌, arith}
use Rattle.image.specs.LinesLaws.{end_read, line_short}
use Rattle.image.proofs.line.line_end.Goals as goal

pub returns : goal.returns
returns c =
    let text = c.args.text.now in
    let end = c.unwrap_or.ensures ∙ end_read text c.min.result c.min.ensures c.find.result (sym c.find.ensures) in
    (omega (arith, end, line_short text), end)
