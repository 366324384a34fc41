-- Laws of a heap's free list.
use Rattle.std.specs.Prelude.{ℕ, ◌+◌, ◌-◌, ◌*◌, ◌/◌, ◌≤◌, ◌<◌, ◌≡◌, ◌↔◌, true, List, length, replicate}
use Rattle.std.proofs.Common.{arith}
use Rattle.words.specs.Header.{size_at}
use Rattle.words.specs.Map.{set_bit, is_start, covered}
use Rattle.words.proofs.CoverLaws.{covered_zeros, covered_same}
use Rattle.layout.specs.Limits.{list_words}
use Rattle.layout.specs.SetUp.{first_list}
use Rattle.runs.specs.Runs.{free_list}
use Rattle.runs.specs.Covers.{Free}
use Rattle.runs.specs.Lists.{In, Holds, Ordered, cut, listed}
use Rattle.runs.proofs.LongestLaws.{runs_holds}
use Rattle.runs.proofs.OrderLaws.{runs_ordered}
use Rattle.runs.proofs.CutLaws.{runs_agree, runs_first, runs_cut}
use Rattle.runs.proofs.SumLaws.{runs_listed, runs_count}
use Rattle.runs.proofs.CoverLaws.{covered_marks}

-- With nothing on the map it is set-up's list.
pub list_first : (k : ℕ) (heap : List ℕ) (n : ℕ) → free_list k heap (replicate n 0) ≡ first_list (length heap) k
unfolding free_list
list_first k heap n = runs_first k (length heap) (covered heap (replicate n 0)) (λ w lo hi. covered_zeros heap n w)

-- The list goes by the starts on the map and by the sizes of their objects.
pub list_same : (k : ℕ) (heap heap' map map' : List ℕ) → length heap' ≡ length heap → ((a : ℕ) → is_start (length heap') map' a ≡ is_start (length heap) map a) → ((a : ℕ) → is_start (length heap) map a ≡ true → size_at heap' a ≡ size_at heap a) → free_list k heap' map' ≡ free_list k heap map
unfolding free_list
list_same k heap heap' map map' long starts sizes =
    rw long (runs_agree k (length heap) (covered heap map) (covered heap' map') (λ w lo hi. covered_same heap heap' map map' starts sizes w))

module _ (k : ℕ) (heap map : List ℕ) where
  -- Its intervals have no more words than the heap has behind word 0.
  pub list_listed : listed (free_list k heap map) ≤ length heap - 1
  unfolding free_list
  list_listed = omega (arith, runs_listed k (length heap) (covered heap map))

  module _ (some : 1 ≤ k) where
    -- Each interval ends below the next one's start.
    pub list_ordered : Ordered k 1 (length heap) 1 (free_list k heap map)
    unfolding free_list
    list_ordered = runs_ordered k (length heap) (covered heap map) some

    -- Its needed part has room for it.
    pub list_fits : 2 * length (free_list k heap map) ≤ list_words (length heap) k
    unfolding free_list list_words
    list_fits = omega (arith, runs_count k (length heap) (covered heap map) some)

    -- Words that have the keep length are free if and only if an interval holds them.
    pub list_holds : (a s : ℕ) → k ≤ s → 1 ≤ a → a + s ≤ length heap → Free (covered heap map) a (a + s) ↔ Holds (free_list k heap map) a s
    unfolding free_list
    list_holds a s enough lo hi = runs_holds k (length heap) (covered heap map) a s some enough lo hi

    -- An object more on the map cuts its words off the interval that holds them.
    pub list_cut : (r j : ℕ) → 0 < r → r < length heap → r / 32 < length map → 1 ≤ size_at heap r → In (free_list k heap map) r (size_at heap r) j → free_list k heap (set_bit map r) ≡ cut k r (size_at heap r) (free_list k heap map) j
    unfolding free_list
    list_cut r j low high room size i = runs_cut k (length heap) (covered heap map) (covered heap (set_bit map r)) r (size_at heap r) j some size (covered_marks heap map r low high room) i
