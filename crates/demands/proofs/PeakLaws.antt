-- The peak is the greatest number of intervals listed at any moment.
use Prim.{Unit}
use Prim.Native.Nat.{ℕ, suc, ◌+◌, ◌≤◌, max}
use Rattle.std.specs.Prelude.{◌≡◌}
use Rattle.std.proofs.Math.Path.{refl, sym, ap}
use Rattle.std.proofs.Common.{◌∙◌, arith}
use mathlib.Core.List.{List, [], ◌∷◌}
use Rattle.std.proofs.Math.Decide.{dec_le}
use Rattle.std.proofs.Math.ListN.{length}
use Rattle.marking.specs.Marking.{Marking, Outcome, going, done, refused, marked, leaving, move, run, begin, collection}
use Rattle.marking.specs.Meets.{Meets, empty, outside, again, ill_formed, overlapping, apart}
use Rattle.marking.proofs.MeetLaws.{meet_meets}
use Rattle.demands.specs.Demand2.{Moment, intervals, Peak}
use Rattle.marking.proofs.RunLaws.{run_done, run_keeps, run_add}

module _ (heap : List ℕ) (t : ℕ) where
  -- What a move does to map and peak: nothing, or it splits an interval and looks at the peak again.
  data Shift (map : List ℕ) (peak : ℕ) : Outcome → Type 0 where
    stays : {k : Marking} → k.map ≡ map → k.peak ≡ peak → Shift map peak (going k)
    splits : {k : Marking} → k.peak ≡ max peak (intervals heap t k) → Shift map peak (going k)
    ends : {k : Marking} → k.map ≡ map → k.peak ≡ peak → Shift map peak (done k)
    stops : {c r : ℕ} → Shift map peak (refused c r)

  -- So does meeting a reference.
  meets_shift : {m : Marking} {r : ℕ} {o : Outcome} → Meets heap t m r o → Shift m.map m.peak o
  unfolding marked
  meets_shift (empty none) = stays refl refl
  meets_shift (outside some l) = stops
  meets_shift (again some l old) = stays refl refl
  meets_shift (ill_formed new e) = stops
  meets_shift (overlapping new well e) = stops
  meets_shift (apart new well free) = splits refl

  -- One move, by what is left to read.
  moves_shift : (m : Marking) (todo stack left : List ℕ) → Shift m.map m.peak (move heap t (leaving m todo stack left m.references))
  unfolding move
  moves_shift m (r ∷ todo) stack left = meets_shift (meet_meets heap t (leaving m todo stack left (suc m.references)) r)
  moves_shift m [] (a ∷ stack) left = stays refl refl
  moves_shift m [] [] (r ∷ left) = meets_shift (meet_meets heap t (leaving m [] [] left (suc m.references)) r)
  moves_shift m [] [] [] = ends refl refl

  -- One move.
  move_shift : (m : Marking) → Shift m.map m.peak (move heap t m)
  move_shift m = moves_shift m m.todo m.stack m.roots

  -- The peak is not below p.
  abbrev AtLeast : ℕ → Outcome → Type 0
  AtLeast p (going m) = p ≤ m.peak
  AtLeast p (done m) = p ≤ m.peak
  AtLeast p (refused c r) = Unit

  -- One move does not lower it.
  shift_least : {p : ℕ} {map : List ℕ} {peak : ℕ} {o : Outcome} → p ≤ peak → Shift map peak o → AtLeast p o
  shift_least l (stays e f) = omega arith
  shift_least l (splits e) = omega arith
  shift_least l (ends e f) = omega arith
  shift_least l stops = tt

  -- Any number of moves does not.
  run_least : (n p : ℕ) (o : Outcome) → AtLeast p o → AtLeast p (run n heap t o)
  run_least n p = run_keeps heap t (AtLeast p) (λ m l. shift_least l (move_shift m)) n

  module _ (roots : List ℕ) where
    -- The collection after n moves.
    abbrev at : ℕ → Outcome
    at n = run n heap t (going (begin heap t roots))

    -- No more intervals than the peak are listed now, and so many were listed at some moment.
    record Tops (m : Marking) : Type 0 where
      now : intervals heap t m ≤ m.peak
      seen : (n : ℕ) × (k : Marking) × Moment heap t roots n k × (intervals heap t k ≡ m.peak)

    -- The same of an outcome.
    abbrev Topped : Outcome → Type 0
    Topped (going m) = Tops m
    Topped (done m) = Tops m
    Topped (refused c r) = Unit

    -- A move keeps that, if it leads to the collection after n moves.
    shift_tops : {m : Marking} {o : Outcome} (n : ℕ) → at n ≡ o → Tops m → Shift m.map m.peak o → Topped o
    shift_tops {m} n e g (stays {k} p q) = record { now = rw (p, q) g.now; seen = rw q g.seen }
    shift_tops {m} n e g (ends {k} p q) = record { now = rw (p, q) g.now; seen = rw q g.seen }
    shift_tops {m} n e g stops = tt
    shift_tops {m} n e g (splits {k} p) = record { now = omega arith; seen = elim (dec_le (intervals heap t k) m.peak) [ yes l ↦ old l | no l ↦ (n, k, e, omega arith) ] }
      where
        old : intervals heap t k ≤ m.peak → (n : ℕ) × (j : Marking) × Moment heap t roots n j × (intervals heap t j ≡ k.peak)
        old l = let same : m.peak ≡ k.peak = omega arith in (g.seen.0, g.seen.1, g.seen.2, g.seen.3 ∙ same)

    -- It holds at every moment.
    always_topped : (n : ℕ) → Topped (at n)
    unfolding run begin
    always_topped n = (run_keeps heap t (λ o. ((k : ℕ) × (at k ≡ o)) × Topped o) step n (going (begin heap t roots)) ((0, refl), record { now = omega arith; seen = (0, begin heap t roots, refl, refl) })).1
      where
        step : (m : Marking) → ((k : ℕ) × (at k ≡ going m)) × Topped (going m) → ((k : ℕ) × (at k ≡ move heap t m)) × Topped (move heap t m)
        step m ((k, e), g) =
            let moved : at (suc k) ≡ move heap t m = run_add heap t k 1 (suc k) (omega arith) (going (begin heap t roots)) ∙ ap (run 1 heap t) e in
            ((suc k, moved), shift_tops (suc k) moved g (move_shift m))

    module _ {m : Marking} (over : collection heap t roots ≡ done m) where
      -- A collection that is done has been at every moment before.
      before : (n : ℕ) (k : Marking) → Moment heap t roots n k → (rest : ℕ) × (run rest heap t (going k) ≡ done m)
      unfolding collection
      before n k e =
          let all : ℕ = suc (length roots + length heap) in
          let o : Outcome = going (begin heap t roots) in
          let there : run all heap t (going k) ≡ done m = ap (run all heap t) (sym e) ∙ sym (run_add heap t n all (n + all) refl o) ∙ run_add heap t all n (n + all) (omega arith) o ∙ ap (run n heap t) over ∙ run_done n heap t m in
          (all, there)

      -- The answer's peak is the peak.
      pub peak_is : Peak heap t roots m.peak
      unfolding collection
      peak_is = record { seen = done_tops.seen; most = most }
        where
          done_tops : Tops m
          done_tops = rw over at (always_topped (suc (length roots + length heap)))

          most : (n : ℕ) (k : Marking) → Moment heap t roots n k → intervals heap t k ≤ m.peak
          most n k e =
              let x = before n k e in
              let tops : Tops k = rw e at (always_topped n) in
              let least : k.peak ≤ m.peak = rw x.1 at (run_least x.0 k.peak (going k) (omega arith)) in
              omega (arith, tops.now)
