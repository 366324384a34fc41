-- `lists::Trial::run` is safe: the part lent is the one needed.
use Rattle.std.proofs.Common.{arith}
use Rattle.layout.specs.LimitsLaws.{allowed, list_needs, needed_ok}
use Rattle.edges.proofs.lists.Trial.run.Goals as goal

pub in_part-requires : goal.in_part-requires
in_part-requires g c = let k = needed_ok _ _ c.in-Ok.ensures in (allowed _ _ k.0 k.1, omega (arith, list_needs _ _ k.0 k.1, c.in-Some.ensures.lookup.0))
