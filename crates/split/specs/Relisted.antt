-- A list of intervals written over another, in the words lent for it.
use Rattle.std.specs.Prelude.{ℕ, ◌*◌, List, ◌++◌, length, drop}
use Rattle.layout.specs.declared.Interval.{Interval}
use Rattle.layout.specs.Intervals.{shown}

-- The words after the first n records gave way to the list l: its own, zeros in the records that it leaves, and the rest as before.
unfoldable pub relisted : ℕ → List Interval → List ℕ → List ℕ
relisted n l list = shown (2 * n) l ++ drop (length (shown (2 * n) l)) list
