-- What a survey says of a list.
use Rattle.std.specs.Prelude.{ℕ, ◌-◌, ◌*◌, ◌/◌, max, cond, List, [], ◌∷◌, eqb}
use Rattle.layout.specs.declared.Interval.{Interval}
use Rattle.runs.specs.Lists.{listed}
use Rattle.freelist.specs.declared.figures.Figures.{Figures}

-- The words of the largest interval.
unfoldable pub largest : List Interval → ℕ
largest [] = 0
largest (i ∷ l) = max i.size (largest l)

-- The fragment figure: 1000 - floor(1000 x largest / listed), or 0 where nothing is listed.
unfoldable pub fragment_of : ℕ → ℕ → ℕ
fragment_of words most = cond (eqb words 0) 0 (1000 - 1000 * most / words)

-- The three figures of a list.
abbrev pub figures_of : List Interval → Figures
figures_of l = record { listed = listed l; largest = largest l; fragment = fragment_of (listed l) (largest l) }
