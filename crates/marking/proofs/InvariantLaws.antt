-- The invariant holds at the beginning, every move keeps it, and the moves come to an end.
use Prim.Native.Nat.{ℕ, zero, suc, ◌+◌, ◌-◌, ◌*◌, ◌/◌, ◌≤◌, ◌<◌}
use Rattle.std.specs.Prelude.{◌≡◌, true, false, replicate}
use Rattle.std.proofs.Common.{◌∙◌, le-div_iff_mul-le, length-append}
use mathlib.Core.List.{List, [], ◌∷◌, ◌++◌}
use Rattle.std.proofs.Math.Nat.{mul_comm, mul-le-mul_right}
use native.Mathlib.Omega.{arith}
use Rattle.std.proofs.Math.ListN.{length, length-replicate}
use Rattle.words.specs.Header.{size_at, refs_at, well_formed, fields_of}
use Rattle.words.proofs.HeaderLaws.{Formed, formed, length_fields}
use Rattle.words.specs.Map.{set_bit}
use Rattle.words.proofs.MapLaws.{length-set_bit}
use Rattle.layout.specs.Limits.{map_words, stack_words, list_words}
use Rattle.layout.specs.LimitsLaws.{bit_inside}
use Rattle.runs.specs.Runs.{free_list}
use Rattle.runs.specs.Lists.{Holds, listed}
use Rattle.runs.proofs.SumLaws.{cut_listed}
use Rattle.runs.proofs.FreeListLaws.{list_listed, list_fits, list_cut}
use Rattle.marking.specs.Marking.{Marking, Outcome, going, done, refused, marked, overlaps, meet, leaving, move, run, begin, collection}
use Rattle.marking.specs.Meets.{New, Meets, empty, outside, again, ill_formed, overlapping, apart}
use Rattle.marking.specs.Invariant.{behind, queue, Room, Invariant, ahead, Still, HasEnded}
use Rattle.marking.proofs.RunLaws.{run_keeps}
use Rattle.marking.proofs.MeetLaws.{overlaps_holds, meet_meets}

-- What holds where a collection goes on carries over to what follows from it.
pub still : {P Q : Marking → Type 0} → ((m : Marking) → P m → Q m) → (o : Outcome) → Still P o → Still Q o
still f (going m) x = f m x
still f (done m) x = tt
still f (refused c r) x = tt

module _ (heap : List ℕ) (t : ℕ) (keeps : 1 ≤ t) where
  module _ {map stack : List ℕ} {objects live : ℕ} (g : Room heap t map stack objects live) where
    -- The stack's needed part has room for it.
    pub depth_room : length stack ≤ stack_words (length heap) t
    unfolding stack_words
    depth_room =
        let d : length stack * t ≤ objects * t = mul-le-mul_right t g.depth in
        (le-div_iff_mul-le {k = t} {x = length stack} {y = length heap - 1} keeps).1 (omega (arith, mul_comm t objects, g.dense, g.words))

    -- Objects are no more than the live words.
    pub objects_room : objects ≤ live
    objects_room =
        let d : 1 * objects ≤ t * objects = mul-le-mul_right objects keeps in
        omega (arith, g.dense)

    module _ {r : ℕ} (new : New heap map r) (well : well_formed heap t r ≡ true) where
      is : Formed heap t r
      is = formed heap t r well

      -- Taking the object off the list takes its words off.
      fewer_listed : overlaps heap map r ≡ false → listed (free_list t heap (set_bit map r)) + size_at heap r ≤ listed (free_list t heap map)
      fewer_listed free =
          let held : Holds (free_list t heap map) r (size_at heap r) = (overlaps_holds heap t map r keeps new.some is).0 free in
          let here : r / 32 < length map = rw g.sized (bit_inside (length heap) r new.inside) in
          rw (list_cut t heap map keeps r held.0 (omega (arith, new.some)) new.inside here (omega (arith, is.fewer)) held.1)
          (cut_listed t r (size_at heap r) (free_list t heap map) held.0 held.1)

      -- With the object marked and pushed there is room still.
      pub room_marked : overlaps heap map r ≡ false → Room heap t (set_bit map r) (r ∷ stack) (suc objects) (live + size_at heap r)
      room_marked free = record {
        sized = length-set_bit map r ∙ g.sized;
        words = omega (arith, fewer_listed free, g.words);
        dense = omega (arith, g.dense, is.least);
        depth = omega (arith, g.depth);
        formed = (is, g.formed);
      }

  module _ (roots : List ℕ) where
    -- The invariant holds, and less is ahead than n.
    abbrev pub Less : ℕ → Marking → Type 0
    Less n m = Invariant heap t roots m × (ahead heap m < n)

    -- Meeting a reference keeps that.
    met_less : {n : ℕ} {m : Marking} {r : ℕ} {o : Outcome} → Less n m → Meets heap t m r o → Still (Less n) o
    unfolding marked queue behind ahead
    met_less g (empty e) = g
    met_less g (outside some l) = tt
    met_less g (again some l e) = g
    met_less g (ill_formed new e) = tt
    met_less g (overlapping new well e) = tt
    met_less {m = m} {r = r} (g, less) (apart new well free) =
        let f : Formed heap t r = formed heap t r well in
        let next = room_marked g.room new well free in
        let longer : length (m.todo ++ (fields_of heap r ++ behind heap m.stack m.roots)) ≡ length (m.todo ++ behind heap m.stack m.roots) + refs_at heap r =
        simp (length-append, length_fields heap t r f) (omega arith) in
        (record { room = next; read = omega (arith, longer, g.read, f.fewer) }, omega (arith, longer, less, f.fewer, next.words))

    -- A reference that is taken, and then met.
    met_next : {n : ℕ} {m : Marking} (r : ℕ) → Less n m → Still (Less n) (meet heap t m r)
    met_next {m = m} r g = met_less g (meet_meets heap t m r)

    -- One move keeps the invariant, and less is ahead: by what is left to read.
    moves : (m : Marking) (todo stack left : List ℕ) → let now : Marking = leaving m todo stack left m.references in Invariant heap t roots now → Still (Less (ahead heap now)) (move heap t now)
    unfolding move queue behind ahead
    moves m (r ∷ todo) stack left g = met_next r (record { room = g.room; read = omega (arith, g.read) }, omega arith)
    moves m [] (a ∷ stack) left g =
        let k : Room heap t m.map (a ∷ stack) m.objects m.live = g.room in
        (record { room = record { sized = k.sized; words = k.words; dense = k.dense; depth = omega (arith, k.depth); formed = k.formed.1 }; read = g.read }, omega arith)
    moves m [] [] (r ∷ left) g = met_next r (record { room = g.room; read = omega (arith, g.read) }, omega arith)
    moves m [] [] [] g = tt

    -- One move keeps the invariant, and less is ahead.
    pub move_less : (m : Marking) → Invariant heap t roots m → Still (Less (ahead heap m)) (move heap t m)
    move_less m g = moves m m.todo m.stack m.roots g

    -- It holds at the beginning.
    pub begin_holds : Invariant heap t roots (begin heap t roots)
    unfolding begin queue behind
    begin_holds = record {
      room = record {
        sized = length-replicate (map_words (length heap)) 0;
        words = omega (arith, list_listed t heap (replicate (map_words (length heap)) 0));
        dense = omega arith;
        depth = omega arith;
        formed = tt;
      };
      read = omega arith;
    }

    -- So many moves are ahead at the beginning, at most.
    pub begin_ahead : ahead heap (begin heap t roots) ≤ length roots + length heap
    unfolding begin queue behind ahead
    begin_ahead = omega arith

    -- It holds at every moment.
    always : (n : ℕ) (o : Outcome) → Still (Invariant heap t roots) o → Still (Invariant heap t roots) (run n heap t o)
    always = run_keeps heap t (Still (Invariant heap t roots)) (λ m g. still (λ k x. x.0) (move heap t m) (move_less m g))

    -- At every moment stack and list have room in their needed parts.
    pub always_room : (n : ℕ) → Still (λ (m : Marking). (length m.stack ≤ stack_words (length heap) t) × (2 * length (free_list t heap m.map) ≤ list_words (length heap) t)) (run n heap t (going (begin heap t roots)))
    always_room n = still (λ m g. (depth_room g.room, list_fits t heap m.map keeps)) (run n heap t (going (begin heap t roots))) (always n (going (begin heap t roots)) begin_holds)

    -- With more moves than are ahead a collection has ended.
    run_ends : (n : ℕ) (o : Outcome) → Still (Less n) o → HasEnded (run n heap t o)
    unfolding run
    run_ends zero (going m) g = omega (arith, g.1)
    run_ends zero (done m) g = tt
    run_ends zero (refused c r) g = tt
    run_ends (suc n) (going m) g = run_ends n (move heap t m) (still (λ k x. (x.0, omega (arith, x.1, g.1))) (move heap t m) (move_less m g.0))
    run_ends (suc n) (done m) g = tt
    run_ends (suc n) (refused c r) g = tt

    -- Every collection ends.
    pub ends : HasEnded (collection heap t roots)
    unfolding collection
    ends = run_ends _ (going (begin heap t roots)) (begin_holds, omega (arith, begin_ahead))
