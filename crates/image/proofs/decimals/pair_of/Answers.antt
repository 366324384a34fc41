-- `decimals::pair_of`: the first comma parts the bytes as in the definition.
use Rattle.std.proofs.Common.{◌+◌, sym, ◌∙◌}
use Rattle.image.specs.LinesLaws.{part_behind}
use Rattle.image.specs.DecimalLaws.{pair_unparted, pair_parted}
use Rattle.image.proofs.decimals.pair_of.Goals as goal

pub returns-in_err-comma : goal.returns-in_err-comma
returns-in_err-comma c = c.from_residual.ensures ∙ pair_unparted c.args.part.now (sym c.find.ensures ∙ c.in_err-comma.was)

pub returns : goal.returns
returns c =
    let part = c.args.part.now in
    rw (c.zip.ensures, c.decimal_of.ensures, c.decimal_of-2.ensures, part_behind part (c.in_ok-comma.comma + 1)) (pair_parted part (sym c.find.ensures ∙ c.in_ok-comma.was))
