-- `shapes::Shape::spread` is safe: the references stand before the objects.
use Rattle.std.proofs.Common.{◌+◌, ◌≤◌}
use Rattle.heaps.proofs.shapes.Shape.spread.Given as goal

abbrev pub invariant-loop-i : goal.invariant-loop-i
invariant-loop-i l = l.self.refs + 2 ≤ l.a
