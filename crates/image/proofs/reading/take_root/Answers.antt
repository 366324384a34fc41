-- `reading::take_root`: the test is the definition's, and the root is stored behind the others.
use Rattle.std.proofs.Common.{arith}
use Rattle.image.specs.SoFarLaws.{root_fit, root_off, root_on}
use Rattle.image.proofs.reading.take_root.Goals as goal

pub returns-then-not-got : goal.returns-then-not-got
returns-then-not-got c = λ heap. root_off c.args.got c.in_ok-root.was c.args.roots.now heap (omega (arith, c.requires.1, c.args.got.roots_in)) c.if-not-got.true

pub returns : goal.returns
returns c =
    let given = c.in_ok-root.was in
    let test = c.if-not-got.false in
    let fit = root_fit c.args.got given test in
    λ heap. root_on c.args.got given c.args.roots.now heap (omega (arith, fit, c.requires.1)) test (omega (arith, fit, c.requires.1))
