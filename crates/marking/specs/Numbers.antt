-- How large the numbers of a collection can be.
use Rattle.std.specs.Prelude.{ℕ, ◌+◌, ◌≤◌, ◌<◌, List, length, get_or}
use Rattle.marking.specs.Marking.{Marking, Outcome, going, done, refused}

-- A number that stands in a word.
abbrev pub Word : ℕ → Type 0
Word n = n < 4294967296

-- Every element does.
abbrev pub Words : List ℕ → Type 0
Words l = (i : ℕ) → Word (get_or l i 0)

-- The counts are no more than the words of the heap, and the references read no more than these and the roots.
pub record Counts (heap roots : List ℕ) (m : Marking) : Type 0 where
  pub objects : m.objects ≤ length heap
  pub live : m.live ≤ length heap
  pub references : m.references ≤ length roots + length heap
  pub peak : m.peak ≤ length heap

-- What comes out has such counts, and what a refusal names stands in a word.
abbrev pub Numbers : List ℕ → List ℕ → Outcome → Type 0
Numbers heap roots (going m) = Counts heap roots m
Numbers heap roots (done m) = Counts heap roots m
Numbers heap roots (refused c r) = Word r
