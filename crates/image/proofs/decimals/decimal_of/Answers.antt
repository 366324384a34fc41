-- `decimals::decimal_of`: the test is the definition's.
use Rattle.std.proofs.Common.{sym, ◌∙◌}
use Rattle.image.specs.DecimalLaws.{decimal_refused, decimal_read}
use Rattle.image.proofs.decimals.decimal_of.Goals as goal

pub returns-then-is_plain : goal.returns-then-is_plain
returns-then-is_plain c = c.digits.ensures ∙ decimal_read c.args.part.now (sym c.is_plain.ensures ∙ c.if-is_plain.true)

pub returns-else-is_plain : goal.returns-else-is_plain
returns-else-is_plain c = decimal_refused c.args.part.now (sym c.is_plain.ensures ∙ c.if-is_plain.false)
