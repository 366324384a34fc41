-- The list's words read back as intervals, and the rule for a lent list.
use Rattle.std.specs.Prelude.{ℕ, zero, suc, ◌+◌, ◌*◌, Bool, true, ◌&&◌, List, [], ◌∷◌, get_or, drop, leb, ltb}
use Rattle.layout.specs.declared.Interval.{Interval}
use Rattle.layout.specs.Limits.{list_room}
use Rattle.runs.specs.Lists.{end}

-- The interval in record j: its start and its size.
abbrev pub record_at : List ℕ → ℕ → Interval
record_at list j = record { start = get_or list (2 * j) 0; size = get_or list (2 * j + 1) 0 }

-- The intervals that pairs of words stand for, each a list of one record.
unfoldable pub intervals : List (List ℕ) → List Interval
intervals [] = []
intervals (pair ∷ pairs) = record_at pair 0 ∷ intervals pairs

-- The intervals in the first n records.
unfoldable pub records : ℕ → List ℕ → List Interval
records zero list = []
records (suc n) list = record_at list 0 ∷ records n (drop 2 list)

-- Each interval starts above the end of the one before it, has t words or more, and ends at h or before; the first starts above `from`.
unfoldable pub in_order : ℕ → ℕ → ℕ → List Interval → Bool
in_order t h from [] = true
in_order t h from (i ∷ l) = ltb from i.start && leb t i.size && leb (end i) h && in_order t h (end i) l

-- A lent list passes refusal 3: its count is not above the room, and the records below it are in order from word 1 on.
unfoldable pub valid_list : ℕ → ℕ → ℕ → List ℕ → Bool
valid_list h t count list = leb count (list_room h t) && in_order t h 0 (records count list)
