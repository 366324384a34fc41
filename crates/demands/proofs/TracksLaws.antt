-- What a collection knows of what is reached holds at the beginning, and every move keeps it.
use Prim.Native.Nat.{ℕ, suc, ◌+◌}
use Rattle.std.specs.Prelude.{◌≡◌, refl, ◌≢◌, true, false, replicate}
use Rattle.std.proofs.Math.Path.{sym}
use mathlib.Core.List.{List, [], ◌∷◌, ◌++◌, Memᴰ}
use Rattle.std.proofs.Common.{arith}
use Rattle.std.proofs.Math.ListN.{length, length-replicate, length-append}
use Rattle.words.specs.Header.{size_at, fields_of}
use Rattle.words.specs.Map.{bit_at}
use Rattle.words.proofs.MapLaws.{bit_zeros}
use Rattle.layout.specs.Limits.{map_words}
use Rattle.runs.proofs.LongestLaws.{clash}
use Rattle.marking.specs.Marking.{Marking, Outcome, going, marked, meet, leaving, move, begin, collection}
use Rattle.marking.specs.Meets.{Meets, empty, outside, again, ill_formed, overlapping, apart}
use Rattle.marking.proofs.MeetLaws.{meet_meets}
use Rattle.marking.specs.Invariant.{behind, queue}
use Rattle.demands.specs.Reach.{Reach, by_root, bad_address, bad_header}
use Rattle.demands.specs.Demand2.{total}
use Rattle.marking.proofs.RunLaws.{run_keeps}
use Rattle.demands.proofs.TotalLaws.{total_none}
use Rattle.demands.specs.Tracks.{Marked, Named, a_root, a_field, Pending, Counted, Tracks, Told}
use Rattle.demands.proofs.MarkedLaws.{passed, clashes, marked_more, pending_more, counted_more}

module _ (heap : List ℕ) (t : ℕ) (roots : List ℕ) where
  -- Meeting a reference, with the others to be read behind it.
  meets_told : {m : Marking} {r : ℕ} {o : Outcome} → Marked heap t roots m.map → Pending heap t roots m.map (r ∷ queue heap m)
      → Counted heap roots m.map (length (queue heap m)) m.objects m.live m.references → Meets heap t m r o → Told heap t roots o
  unfolding marked queue behind
  meets_told {r = r} k p c (empty none) = record { marked = k; pending = passed heap t roots r (λ some. absurd (some none)) p; counted = c }
  meets_told {r = r} k p c (outside some l) = bad_address (p.reached r (Memᴰ.head refl) some) l
  meets_told {r = r} k p c (again some l old) = record { marked = k; pending = passed heap t roots r (λ _. old) p; counted = c }
  meets_told {r = r} k p c (ill_formed new e) = bad_header (p.reached r (Memᴰ.head refl) new.some) new.inside e
  meets_told {r = r} k p c (overlapping new well e) = clashes heap t roots k (p.reached r (Memᴰ.head refl) new.some) new well e
  meets_told {m = m} {r = r} k p c (apart new well free) =
      let met : Reach heap t roots r = p.reached r (Memᴰ.head refl) new.some in
      let rest : List ℕ = behind heap m.stack m.roots in
      let longer : length (m.todo ++ rest) + length (fields_of heap r) ≡ length (m.todo ++ (fields_of heap r ++ rest)) = simp length-append (omega arith) in
      record {
        marked = marked_more heap t roots k met new well free;
        pending = pending_more heap t roots k met new well free m.todo rest p;
        counted = rw longer at (counted_more heap t roots k met new well free c);
      }

  -- The next reference is taken and met.
  next_told : {m : Marking} (r : ℕ) → Tracks heap t roots (r ∷ queue heap m) m → let now : Marking = leaving m m.todo m.stack m.roots (suc m.references) in Told heap t roots (meet heap t now r)
  unfolding queue
  next_told {m} r g =
      let now : Marking = leaving m m.todo m.stack m.roots (suc m.references) in
      let c = g.counted in
      meets_told {m = now} g.marked g.pending (record { objects_are = c.objects_are; live_is = c.live_is; references_are = omega (arith, c.references_are) }) (meet_meets heap t now r)

  -- One move, by what is left to read.
  moves_told : (m : Marking) (todo stack left : List ℕ) → let now : Marking = leaving m todo stack left m.references in Tracks heap t roots (queue heap now) now → Told heap t roots (move heap t now)
  unfolding move queue behind
  moves_told m (r ∷ todo) stack left g = next_told {m = leaving m todo stack left m.references} r (record { marked = g.marked; pending = g.pending; counted = g.counted })
  moves_told m [] (a ∷ stack) left g = record { marked = g.marked; pending = g.pending; counted = g.counted }
  moves_told m [] [] (r ∷ left) g = next_told {m = leaving m [] [] left m.references} r (record { marked = g.marked; pending = g.pending; counted = g.counted })
  moves_told m [] [] [] g = g

  -- Before the first root nothing is on the map, and the roots are to be read.
  begin_told : Tracks heap t roots (queue heap (begin heap t roots)) (begin heap t roots)
  unfolding begin queue behind
  begin_told = record {
    marked = record { sized = length-replicate n 0; reached = λ a e. absurd (blank a e); formed = λ a e. absurd (blank a e); apart = λ a b e. absurd (blank a e) };
    pending = record { reached = λ r i some. by_root i some; named = only_roots };
    counted = record { objects_are = sym (nothing (λ a. 1)); live_is = sym (nothing (size_at heap)); references_are = omega (arith, nothing (λ a. length (fields_of heap a))) };
  }
    where
      n : ℕ
      n = map_words (length heap)

      blank : (a : ℕ) → bit_at (replicate n 0) a ≡ true → ⊥
      blank a e = clash e (bit_zeros n a)

      nothing : (f : ℕ → ℕ) → total (bit_at (replicate n 0)) f (length heap) ≡ 0
      nothing f = total_none f (bit_zeros n) (length heap)

      only_roots : (r : ℕ) → Named heap roots (replicate n 0) r → r ≢ 0 → bit_at (replicate n 0) r ≡ false → Memᴰ r roots
      only_roots r (a_root i) some new = i
      only_roots r (a_field a e i) some new = absurd (blank a e)

  -- A whole collection.
  pub collection_told : Told heap t roots (collection heap t roots)
  unfolding collection
  collection_told = run_keeps heap t (Told heap t roots) (λ m. moves_told m m.todo m.stack m.roots) _ (going (begin heap t roots)) begin_told
