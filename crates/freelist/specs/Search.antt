-- What is looked for in a list.
use Rattle.std.specs.Prelude.{ℕ, suc, ◌+◌, ◌<◌, Bool, cond, ◌&&◌, List, [], ◌∷◌, length, leb, Option, Some, None}
use Rattle.layout.specs.declared.Interval.{Interval}
use Rattle.runs.specs.Lists.{interval_at, end}

-- The first interval that passes the test, as its place, where the first of all has the place j.
unfoldable pub first_from : (Interval → Bool) → ℕ → List Interval → Option ℕ
first_from test j [] = None
first_from test j (i ∷ l) = cond (test i) (Some j) (first_from test (suc j) l)

-- The interval has s words.
abbrev pub fits : ℕ → Interval → Bool
fits s i = leb s i.size

-- The interval that an allot of s words takes: the first that has them.
unfoldable pub fitting : ℕ → List Interval → Option ℕ
fitting s l = first_from (fits s) 0 l

-- The interval contains the s words from a on.
abbrev pub contains : ℕ → ℕ → Interval → Bool
contains a s i = leb i.start a && leb (a + s) (end i)

-- The interval of the list that does.
unfoldable pub holder : ℕ → ℕ → List Interval → Option ℕ
holder a s l = first_from (contains a s) 0 l

-- Each interval ends below the start of those behind it.
abbrev pub Sorted : List Interval → Type 0
Sorted l = (i j : ℕ) → i < j → j < length l → end (interval_at l i) < (interval_at l j).start
