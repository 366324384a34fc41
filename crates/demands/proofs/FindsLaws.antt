-- A collection that is done leaves in whole buffers what it has found.
use Prim.Native.Nat.{ℕ, ◌≤◌, ◌<◌}
use Rattle.std.specs.Prelude.{◌≡◌, length, take}
use Rattle.std.proofs.Common.{sym, ap, ◌∙◌}
use mathlib.Core.List.{List, [], ◌++◌}
use Rattle.std.proofs.Math.Seq.{take_at}
use Rattle.words.specs.Map.{bit_at, is_start}
use Rattle.words.proofs.MapLaws.{bit_take}
use Rattle.layout.specs.Intervals.{shown}
use Rattle.layout.specs.Limits.{map_words, list_words}
use Rattle.layout.specs.LimitsLaws.{bit_inside}
use Rattle.layout.specs.declared.Interval.{Interval}
use Rattle.runs.specs.Runs.{free_list}
use Rattle.runs.proofs.FreeListLaws.{list_fits}
use Rattle.freelist.specs.Records.{records}
use Rattle.split.specs.RelistedLaws.{length-shown, records_front}
use Rattle.marking.specs.Marking.{Marking, done, collection}
use Rattle.collector.specs.Collect.{settled}
use Rattle.demands.specs.Reach.{Reach}
use Rattle.demands.specs.Demand2.{Tells, Finds}
use Rattle.demands.specs.Tracks.{Tracks}
use Rattle.demands.proofs.ListsLaws.{covered_tells, list_lists}
use Rattle.demands.proofs.SettledLaws.{bits_tell, starts_tell, live_covered, counts_sum}
use Rattle.demands.proofs.PeakLaws.{peak_is}

module _ {heap : List ℕ} {t : ℕ} {roots : List ℕ} {m : Marking} (keeps : 1 ≤ t) (g : Tracks heap t roots [] m) where
  -- The free list.
  free : List Interval
  free = free_list t heap m.map

  -- How many words are needed for it.
  needed : ℕ
  needed = list_words (length heap) t

  module _ (past : List ℕ) where
    -- The needed part of the map.
    map_part : take (map_words (length heap)) (m.map ++ past) ≡ m.map
    map_part = take_at m.map past (map_words (length heap)) g.marked.sized

    -- The bits of the heap's words are those of that part.
    bit_whole : (a : ℕ) → a < length heap → bit_at (m.map ++ past) a ≡ bit_at m.map a
    bit_whole a l = sym (bit_take (map_words (length heap)) (m.map ++ past) a (bit_inside (length heap) a l)) ∙ ap (λ (k : List ℕ). bit_at k a) map_part

    -- The needed part of the list.
    list_part : take needed (shown needed free ++ past) ≡ shown needed free
    unfolding free needed
    list_part = take_at (shown needed free) past needed (length-shown needed free (list_fits t heap m.map keeps))

  -- All that it has found.
  pub done_finds : collection heap t roots ≡ done m → (past-map past-list : List ℕ) → Finds heap t roots (settled heap t m).answer (m.map ++ past-map) ((settled heap t m).list ++ past-list)
  unfolding free needed
  done_finds over past-map past-list =
      let l : List ℕ = shown needed free ++ past-list in
      let starts : Tells (is_start (length heap) (m.map ++ past-map)) (Reach heap t roots) = starts_tell g (m.map ++ past-map) (bit_whole past-map) in
      let back : records (length free) l ≡ free = records_front needed free past-list in
      record {
        starts = starts;
        covers = covered_tells heap (m.map ++ past-map) starts;
        bits = rw (map_part past-map) (bits_tell g);
        lists = list_lists heap m.map keeps (live_covered g) back (list_part past-list);
        sums = counts_sum g;
        peak = peak_is heap t roots over;
      }
