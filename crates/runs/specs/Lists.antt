-- What is said of a list of intervals.
use Rattle.std.specs.Prelude.{ℕ, suc, ◌+◌, ◌-◌, ◌≤◌, ◌<◌, ◌≡◌, List, [], ◌∷◌, ◌++◌, length, get_or, take, drop}
use Rattle.layout.specs.declared.Interval.{Interval}
use Rattle.runs.specs.Runs.{kept}

-- What stands at a place past a list's end.
abbrev pub nowhere : Interval
nowhere = record { start = 0; size = 0 }

-- The interval at place j of a list.
abbrev pub interval_at : List Interval → ℕ → Interval
interval_at l j = get_or l j nowhere

-- One past an interval's last word.
abbrev pub end : Interval → ℕ
end i = i.start + i.size

-- The interval i stands in the list.
abbrev pub Member : List Interval → Interval → Type 0
Member l i = (j : ℕ) × (j < length l) × (interval_at l j ≡ i)

-- The s words from a on lie in the interval at place j.
pub record In (l : List Interval) (a s j : ℕ) : Type 0 where
  pub there : j < length l
  pub low : (interval_at l j).start ≤ a
  pub high : a + s ≤ end (interval_at l j)

-- They lie in an interval of the list.
abbrev pub Holds : List Interval → ℕ → ℕ → Type 0
Holds l a s = (j : ℕ) × In l a s j

-- The interval i is a longest run of words outside Taken from lo on, up to e, and has k words or more.
pub record Longest (k : ℕ) (Taken : ℕ → Type 0) (lo e : ℕ) (i : Interval) : Type 0 where
  pub low : lo ≤ i.start
  pub high : end i ≤ e
  pub enough : k ≤ i.size
  pub free : (w : ℕ) → i.start ≤ w → w < end i → ¬ Taken w
  pub before : lo < i.start → Taken (i.start - 1)
  pub after : end i < e → Taken (end i)

-- Each interval has k words or more and lies from lo on, up to e, and g words or more lie between one and the next.
pub data Ordered (k g e : ℕ) : ℕ → List Interval → Type 0 where
  none : {lo : ℕ} → Ordered k g e lo []
  one : {lo : ℕ} {i : Interval} {l : List Interval} → lo ≤ i.start → k ≤ i.size → end i ≤ e → Ordered k g e (end i + g) l → Ordered k g e lo (i ∷ l)

-- The list with the interval at place j replaced by its first `left` words and by the `right` words from `next` on, each if it has k words.
abbrev pub sides : ℕ → ℕ → ℕ → ℕ → List Interval → ℕ → List Interval
sides k left next right l j = take j l ++ kept k (interval_at l j).start left (kept k next right (drop (suc j) l))

-- The list with the s words from a on taken off the interval at place j; a side shorter than k is dropped.
unfoldable pub cut : ℕ → ℕ → ℕ → List Interval → ℕ → List Interval
cut k a s l j = sides k (a - (interval_at l j).start) (a + s) (end (interval_at l j) - (a + s)) l j

-- The list after an allot took the first s words of the interval at place j.
abbrev pub without_front : ℕ → ℕ → List Interval → ℕ → List Interval
without_front k s l j = cut k (interval_at l j).start s l j

-- How many words the intervals have together.
unfoldable pub listed : List Interval → ℕ
listed [] = 0
listed (i ∷ l) = i.size + listed l
