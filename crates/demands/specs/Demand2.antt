-- Demand 2: what a collection must answer and leave, said of what the roots reach.
use Rattle.std.specs.Prelude.{ℕ, zero, suc, ◌+◌, ◌≤◌, ◌≡◌, ◌≢◌, ◌↔◌, Bool, true, cond, List, length, take}
use Rattle.words.specs.Header.{size_at, fields_of}
use Rattle.words.specs.Map.{bit_at, is_start, covered}
use Rattle.layout.specs.Intervals.{shown}
use Rattle.layout.specs.Limits.{map_words, list_words}
use Rattle.layout.specs.declared.Interval.{Interval}
use Rattle.runs.specs.Runs.{runs, free_list}
use Rattle.runs.specs.Lists.{Member, Longest, Ordered}
use Rattle.freelist.specs.Records.{records}
use Rattle.marking.specs.Marking.{Marking, going, refused, move, run, begin}
use Rattle.collector.specs.Collect.{Collected, Left}
use Rattle.demands.specs.Reach.{Reach, Live, Sound, Fault}

-- Just the numbers of which P holds pass the test.
abbrev pub Tells : (ℕ → Bool) → (ℕ → Type 0) → Type 0
Tells test P = (a : ℕ) → (test a ≡ true) ↔ P a

-- The sum of f over the numbers below n that pass the test.
unfoldable pub total : (ℕ → Bool) → (ℕ → ℕ) → ℕ → ℕ
total test f zero = 0
total test f (suc n) = total test f n + cond (test n) (f n) 0

-- The counts are sums over what is reached, and the roots.
pub record Sums (heap roots : List ℕ) (reached : ℕ → Bool) (answer : Collected) : Type 0 where
  pub objects : answer.objects ≡ total reached (λ a. 1) (length heap)
  pub live : answer.live ≡ total reached (size_at heap) (length heap)
  pub references : answer.references ≡ length roots + total reached (λ a. length (fields_of heap a)) (length heap)

-- After n moves from the beginning the collection stands at m.
abbrev pub Moment : List ℕ → ℕ → List ℕ → ℕ → Marking → Type 0
Moment heap t roots n m = run n heap t (going (begin heap t roots)) ≡ going m

-- How many intervals are listed at m.
abbrev pub intervals : List ℕ → ℕ → Marking → ℕ
intervals heap t m = length (free_list t heap m.map)

-- The peak is the greatest number of intervals listed at any moment.
pub record Peak (heap : List ℕ) (t : ℕ) (roots : List ℕ) (peak : ℕ) : Type 0 where
  pub seen : (n : ℕ) × (m : Marking) × Moment heap t roots n m × (intervals heap t m ≡ peak)
  pub most : (n : ℕ) (m : Marking) → Moment heap t roots n m → intervals heap t m ≤ peak

-- The list of an h-word heap: its first `count` records are the intervals that it must have, and those behind are zero.
pub record Lists (t h : ℕ) (Taken : ℕ → Type 0) (count : ℕ) (list : List ℕ) : Type 0 where
  -- It has just the longest runs of words outside Taken that have t words or more.
  pub longest : (i : Interval) → Member (records count list) i ↔ Longest t Taken 1 h i
  -- It goes by address.
  pub ordered : Ordered t 1 h 1 (records count list)
  -- It is what mark-sweep's sweep gives, by any test for those words.
  pub swept : (taken : ℕ → Bool) → Tells taken Taken → records count list ≡ runs t h taken
  -- The records behind it are zero.
  pub zeros : take (list_words h t) list ≡ shown (list_words h t) (records count list)

-- What a collection that succeeds answers, and what it leaves in map and list.
pub record Finds (heap : List ℕ) (t : ℕ) (roots : List ℕ) (answer : Collected) (map list : List ℕ) : Type 0 where
  -- Just the addresses that are reached are starts on the map.
  pub starts : Tells (is_start (length heap) map) (Reach heap t roots)
  -- Just their bits are set in its needed words.
  pub bits : Tells (bit_at (take (map_words (length heap)) map)) (Reach heap t roots)
  -- Just the words of objects that are reached lie in objects on the map.
  pub covers : Tells (covered heap map) (Live heap t roots)
  -- The list has just the longest runs outside those words, as the sweep gives them.
  pub lists : Lists t (length heap) (Live heap t roots) answer.state.count list
  -- The counts are sums over what is reached, by any test for it, and the roots.
  pub sums : (reached : ℕ → Bool) → Tells reached (Reach heap t roots) → Sums heap roots reached answer
  -- The peak is the greatest number of intervals that were listed at once.
  pub peak : Peak heap t roots answer.peak

-- Demand 2 of a collection's outcome.
pub record Demand2 (heap : List ℕ) (t : ℕ) (roots : List ℕ) (out : Left) : Type 0 where
  -- It succeeds exactly when all that is reached is sound.
  pub succeeds : (out.answer.code ≡ 0) ↔ Sound heap t roots
  -- A success has found what is reached.
  pub finds : out.answer.code ≡ 0 → Finds heap t roots out.answer out.map out.list
  -- A refusal names a reference that is at fault.
  pub refuses : out.answer.code ≢ 0 → Fault heap t roots out.answer.code out.answer.place
  -- It is the first in marking order: at some moment the next move refuses so.
  pub first : out.answer.code ≢ 0 → (n : ℕ) × (m : Marking) × Moment heap t roots n m × (move heap t m ≡ refused out.answer.code out.answer.place)
