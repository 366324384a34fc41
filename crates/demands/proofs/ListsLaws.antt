-- The list of a heap is the one that it must have.
use Rattle.std.specs.Prelude.{ℕ, ◌≤◌, ◌≡◌, ◌↔◌, Bool, List, length, take}
use mathlib.Core.Logic.Iff
use Rattle.words.specs.Map.{is_start, covered}
use Rattle.words.proofs.CoverLaws.{owner_covers, covered_owner}
use Rattle.layout.specs.Intervals.{shown}
use Rattle.layout.specs.Limits.{list_words}
use Rattle.layout.specs.declared.Interval.{Interval}
use Rattle.runs.specs.Runs.{free_list, runs}
use Rattle.runs.specs.Lists.{Member, Longest}
use Rattle.runs.proofs.LongestLaws.{longest_same, runs_longest}
use Rattle.runs.proofs.CutLaws.{runs_agree}
use Rattle.runs.proofs.FreeListLaws.{list_ordered}
use Rattle.freelist.specs.Records.{records}
use Rattle.demands.specs.Reach.{InObject}
use Rattle.demands.specs.Demand2.{Tells, Lists}
use Rattle.demands.proofs.TotalLaws.{tells_same}

-- Where just the addresses of which P holds are starts on the map, just the words of their objects are covered.
pub covered_tells : (heap map : List ℕ) {P : ℕ → Type 0} → Tells (is_start (length heap) map) P → Tells (covered heap map) (InObject heap P)
covered_tells heap map starts w = (
  λ e. let o = covered_owner heap map w e in (o.0, (starts o.0).0 o.1.start, o.1.low, o.1.high),
  λ (a, p, lo, hi). owner_covers heap map w a (record { start = (starts a).1 p; low = lo; high = hi }),
)

module _ {t : ℕ} (heap map : List ℕ) {Taken : ℕ → Type 0} (keeps : 1 ≤ t) (covers : Tells (covered heap map) Taken) where
  -- The heap's free list has just the longest runs outside what is covered.
  list_longest : (i : Interval) → Member (free_list t heap map) i ↔ Longest t Taken 1 (length heap) i
  unfolding free_list
  list_longest i =
      let x = runs_longest t (length heap) (covered heap map) i keeps in
      (λ y. longest_same covers (x.0 y), λ y. x.1 (longest_same (λ w. Iff.symm (covers w)) y))

  -- It is what the sweep gives, by any test that tells what is covered.
  list_swept : (taken : ℕ → Bool) → Tells taken Taken → free_list t heap map ≡ runs t (length heap) taken
  unfolding free_list
  list_swept taken tells = runs_agree t (length heap) taken (covered heap map) (λ w lo hi. tells_same covers tells w)

  -- Where it stands in a buffer with zeros behind it, the buffer has the list that it must have.
  pub list_lists : {count : ℕ} {list : List ℕ} → records count list ≡ free_list t heap map → take (list_words (length heap) t) list ≡ shown (list_words (length heap) t) (free_list t heap map) → Lists t (length heap) Taken count list
  list_lists back zeros = record { longest = rw back list_longest; ordered = rw back (list_ordered t heap map keeps); swept = rw back list_swept; zeros = rw back zeros }
