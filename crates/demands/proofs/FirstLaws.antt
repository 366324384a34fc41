-- A collection that is refused was refused at one of its moments, and no other refusal was.
use Prim.{Unit}
use Prim.Native.Nat.{ℕ, zero, suc, ◌+◌}
use Rattle.std.specs.Prelude.{◌≡◌, List}
use Rattle.std.proofs.Math.Path.{refl, sym, ap}
use Rattle.std.proofs.Common.{subst, ◌∙◌, arith}
use Rattle.marking.specs.Marking.{Marking, Outcome, going, done, refused, move, run, begin, collection}
use Rattle.marking.proofs.RunLaws.{run_done, run_refused, run_add}
use Rattle.demands.specs.Demand2.{Moment}

-- An outcome is a refusal.
abbrev IsRefused : Outcome → Type 0
IsRefused (going m) = ⊥
IsRefused (done m) = ⊥
IsRefused (refused c r) = Unit

-- The number of a refusal.
abbrev number_of : Outcome → ℕ
number_of (going m) = 0
number_of (done m) = 0
number_of (refused c r) = c

-- The reference that a refusal names.
abbrev named_by : Outcome → ℕ
named_by (going m) = 0
named_by (done m) = 0
named_by (refused c r) = r

module _ (heap : List ℕ) (t : ℕ) where
  -- Some move of a run that is refused meets the reference and refuses it.
  run_stops : {c r : ℕ} (n : ℕ) (m : Marking) → run n heap t (going m) ≡ refused c r → (k : ℕ) × (p : Marking) × (run k heap t (going m) ≡ going p) × (move heap t p ≡ refused c r)
  unfolding run
  run_stops zero m e = absurd (subst IsRefused (sym e) tt)
  run_stops {c} {r} (suc n) m e = go (move heap t m) refl e (run_stops n)
    where
      go : (o : Outcome) → move heap t m ≡ o → run n heap t o ≡ refused c r → ((p : Marking) → run n heap t (going p) ≡ refused c r → (k : ℕ) × (q : Marking) × (run k heap t (going p) ≡ going q) × (move heap t q ≡ refused c r))
          → (k : ℕ) × (p : Marking) × (run k heap t (going m) ≡ going p) × (move heap t p ≡ refused c r)
      go (going p) q f ih = let x = ih p f in (suc x.0, x.1, rw q x.2, x.3)
      go (done p) q f ih = absurd (subst IsRefused (sym f ∙ run_done n heap t p) tt)
      go (refused c' r') q f ih = (0, m, refl, q ∙ sym (run_refused n heap t c' r') ∙ f)

  module _ (roots : List ℕ) where
    -- So does some move of a collection that is refused.
    pub stops : {c r : ℕ} → collection heap t roots ≡ refused c r → (n : ℕ) × (m : Marking) × Moment heap t roots n m × (move heap t m ≡ refused c r)
    unfolding collection
    stops e = run_stops _ (begin heap t roots) e

    -- What a move refuses after n moves is refused for good.
    stays_refused : {c r : ℕ} (n more all : ℕ) (m : Marking) → n + suc more ≡ all → Moment heap t roots n m → move heap t m ≡ refused c r → run all heap t (going (begin heap t roots)) ≡ refused c r
    unfolding run
    stays_refused {c} {r} n more all m sum at e =
        run_add heap t n (suc more) all sum (going (begin heap t roots)) ∙ ap (run (suc more) heap t) at ∙ ap (run more heap t) e ∙ run_refused more heap t c r

    -- No two refusals are first.
    pub first_only : {c r c' r' : ℕ} (n : ℕ) (m : Marking) → Moment heap t roots n m → move heap t m ≡ refused c r → (n' : ℕ) (m' : Marking) → Moment heap t roots n' m' → move heap t m' ≡ refused c' r' → (c ≡ c') × (r ≡ r')
    first_only n m at e n' m' at' e' =
        let same = sym (stays_refused n n' (suc (n + n')) m (omega arith) at e) ∙ stays_refused n' n (suc (n + n')) m' (omega arith) at' e' in
        (ap number_of same, ap named_by same)
