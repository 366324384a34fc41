-- The list that mark-sweep's sweep gives: every longest run of uncovered words that has the keep length, by address.
use Rattle.std.specs.Prelude.{ℕ, zero, suc, ◌+◌, ◌-◌, Bool, cond, List, [], ◌∷◌, length, leb}
use Rattle.words.specs.Map.{covered}
use Rattle.layout.specs.declared.Interval.{Interval}

-- The n words from `at` on, in front of the rest of a list, if they have the keep length k.
unfoldable pub kept : ℕ → ℕ → ℕ → List Interval → List Interval
kept k at n rest = cond (leb k n) (record { start = at; size = n } ∷ rest) rest

-- The sweep over the `left` words from at + n on, where the n words from `at` on are a run still open.
unfoldable pub runs_from : ℕ → (ℕ → Bool) → ℕ → ℕ → ℕ → List Interval
runs_from k cov at n zero = kept k at n []
runs_from k cov at n (suc left) = cond (cov (at + n)) (kept k at n (runs_from k cov (suc (at + n)) 0 left)) (runs_from k cov at (suc n) left)

-- The sweep over words 1 to h-1.
unfoldable pub runs : ℕ → ℕ → (ℕ → Bool) → List Interval
runs k h cov = runs_from k cov 1 0 (h - 1)

-- The free list of a heap: the runs of words outside the objects on its map.
unfoldable pub free_list : ℕ → List ℕ → List ℕ → List Interval
free_list k heap map = runs k (length heap) (covered heap map)
