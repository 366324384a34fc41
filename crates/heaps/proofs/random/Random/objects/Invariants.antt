-- `random::Random::objects` is safe: each object begins at most a word behind the heap.
use Rattle.std.proofs.Common.{◌+◌, ◌≤◌, length}
use Rattle.heaps.proofs.random.Random.objects.Given as goal

abbrev pub invariant-loop-i : goal.invariant-loop-i
invariant-loop-i l = l.a ≤ length l.fn.heap + 1
