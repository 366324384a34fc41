-- What a collection that is done has found.
use Rattle.std.specs.Prelude.{ℕ, ◌<◌, ◌≡◌, refl, ◌≢◌, Bool, true, List, [], length}
use Rattle.std.proofs.Common.{sym, ◌∙◌, arith}
use mathlib.Core.List.Memᴰ
use mathlib.Mathlib.Data.Bool.Basic.{eq-true_of_not-eq-false}
use Rattle.words.specs.Header.{size_at, fields_of}
use Rattle.words.proofs.HeaderLaws.{Formed, formed}
use Rattle.words.specs.Map.{bit_at, is_start, covered}
use Rattle.words.proofs.MapLaws.{start, is_start_lem}
use Rattle.marking.specs.Marking.{Marking}
use Rattle.collector.specs.Collect.{settled}
use Rattle.demands.specs.Reach.{Reach, Live, Sound}
use Rattle.demands.specs.Demand2.{Tells, total, Sums}
use Rattle.demands.proofs.TotalLaws.{tells_same, total_same}
use Rattle.demands.proofs.ListsLaws.{covered_tells}
use Rattle.demands.specs.Tracks.{Named, a_root, a_field, Tracks}
use Rattle.demands.proofs.ReachLaws.{reach_least, reach_some}

module _ {heap : List ℕ} {t : ℕ} {roots : List ℕ} {m : Marking} (g : Tracks heap t roots [] m) where
  -- With nothing left to be read, whatever a root or an object on the map names is on the map.
  no_more : (r : ℕ) → Named heap roots m.map r → r ≢ 0 → bit_at m.map r ≡ true
  no_more r n some = eq-true_of_not-eq-false λ clear. Memᴰ.not-nil (g.pending.named r n some clear)

  -- So is whatever is reached.
  all_marked : {a : ℕ} → Reach heap t roots a → bit_at m.map a ≡ true
  all_marked = reach_least (λ a. bit_at m.map a ≡ true) (λ r i some. no_more r (a_root i) some) (λ a r e well i some. no_more r (a_field a e i) some)

  -- Just the objects that are reached are on the map.
  pub bits_tell : Tells (bit_at m.map) (Reach heap t roots)
  bits_tell a = (g.marked.reached a, all_marked)

  -- All is sound.
  pub settled_sound : Sound heap t roots
  settled_sound = record { formed = λ a p. g.marked.formed a (all_marked p); apart = λ a b p q. g.marked.apart a b (all_marked p) (all_marked q) }

  -- What is reached is an address of the heap behind word 0.
  pub reach_inside : {a : ℕ} → Reach heap t roots a → (0 < a) × (a < length heap)
  reach_inside {a} p =
      let f : Formed heap t a = formed heap t a (settled_sound.formed a p) in
      let some : a ≢ 0 = reach_some p in
      (omega arith, omega (arith, f.ends, f.fewer))

  -- Just the addresses that are reached are starts, on any map that has the same bits for the heap's words.
  pub starts_tell : (map : List ℕ) → ((a : ℕ) → a < length heap → bit_at map a ≡ bit_at m.map a) → Tells (is_start (length heap) map) (Reach heap t roots)
  starts_tell map same a = (
    λ e. let s = start (length heap) map a e in g.marked.reached a (sym (same a s.inside) ∙ s.bit),
    λ p. let x = reach_inside p in is_start_lem (length heap) map a (record { some = x.0; inside = x.1; bit = same a x.1 ∙ all_marked p }),
  )

  -- Just the words of objects that are reached are covered.
  pub live_covered : Tells (covered heap m.map) (Live heap t roots)
  live_covered = covered_tells heap m.map (starts_tell m.map (λ a l. refl))

  -- The counts are sums over what is reached, by any test that tells it, and the roots.
  pub counts_sum : (reached : ℕ → Bool) → Tells reached (Reach heap t roots) → Sums heap roots reached (settled heap t m).answer
  counts_sum reached tells = record {
    objects = g.counted.objects_are ∙ same (λ a. 1);
    live = g.counted.live_is ∙ same (size_at heap);
    references = omega (arith, g.counted.references_are, same (λ a. length (fields_of heap a)));
  }
    where
      same : (f : ℕ → ℕ) → total (bit_at m.map) f (length heap) ≡ total reached f (length heap)
      same f = total_same f (tells_same bits_tell tells) (length heap)
