-- The list of free intervals, and its words in a buffer.
use Rattle.std.specs.Prelude.{ℕ, ◌-◌, ◌*◌, List, [], ◌∷◌, ◌++◌, length, replicate}
use Rattle.layout.specs.declared.Interval.{Interval}

-- The words of a list: start and size of each interval.
unfoldable pub flat : List Interval → List ℕ
flat [] = []
flat (i ∷ l) = i.start ∷ i.size ∷ flat l

-- A list in a part of n words: its records, then zeros.
unfoldable pub shown : ℕ → List Interval → List ℕ
shown n l = flat l ++ replicate (n - 2 * length l) 0
