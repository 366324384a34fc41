-- The list goes by the words 1 to h-1 alone, and where words of a listed interval are covered it is cut at that place.
use Rattle.std.specs.Prelude.{ℕ, zero, suc, ◌+◌, ◌-◌, ◌≤◌, ◌<◌, ◌≡◌, Bool, List, [], ◌∷◌}
use Rattle.std.proofs.Common.{subst, ◌∙◌, arith}
use Rattle.layout.specs.declared.Interval.{Interval}
use Rattle.layout.specs.SetUp.{first_list}
use Rattle.runs.specs.Runs.{kept, runs}
use Rattle.runs.specs.Covers.{Free, Full, Agree, Marks}
use Rattle.runs.specs.Lists.{In, cut}
use Rattle.runs.proofs.Sweep.{Sweep, ends, stretch, kept_cases, kept_long, kept_short, runs_sweep, sweep_runs}
use Rattle.runs.proofs.LongestLaws.{sweep_longest}

-- A sweep goes by the words from where it begins up to its end.
sweep_agree : {k : ℕ} {cov cov' : ℕ → Bool} {e at : ℕ} {l : List Interval} → Agree cov cov' at e → Sweep k cov e at l → Sweep k cov' e at l
sweep_agree g ends = ends
sweep_agree g (stretch n b q r f c v) =
    stretch n b q r (λ w lo hi. g w lo (omega arith) ∙ f w lo hi) (λ h. g b (omega arith) h ∙ c h) (sweep_agree (λ w lo hi. g w (omega arith) hi) v)

-- Two covers that agree on words 1 to h-1 give one list.
pub runs_agree : (k h : ℕ) (cov cov' : ℕ → Bool) → Agree cov cov' 1 h → runs k h cov' ≡ runs k h cov
runs_agree k h cov cov' g = sweep_runs h (sweep_agree (λ w lo hi. g w lo (omega arith)) (runs_sweep k h cov))

-- Where no word is covered the list is set-up's.
pub runs_first : (k h : ℕ) (cov : ℕ → Bool) → Free cov 1 h → runs k h cov ≡ first_list h k
unfolding first_list kept
runs_first k h cov f =
    sweep_runs h (stretch {at = 1} {l = []} (h - 1) (suc (h - 1)) (omega arith) (omega arith) (λ w lo hi. f w lo (omega arith)) (λ x. absurd (omega arith)) ends)

-- Covered words in front change nothing.
sweep_skip : {k : ℕ} {cov : ℕ → Bool} {e b : ℕ} {l : List Interval} (m at : ℕ) → at + m ≡ b → 1 ≤ k → b ≤ e → Full cov at b → Sweep k cov e b l → Sweep k cov e at l
sweep_skip {k} {cov} {e} {b} {l} zero at p some h g v = subst (λ (x : ℕ). Sweep k cov e x l) (omega arith) v
sweep_skip {k} {cov} {e} {b} {l} (suc m) at p some h g v =
    subst (λ (x : List Interval). Sweep k cov e at x) (kept_short k at 0 l some)
    (stretch 0 at (omega arith) (omega arith) (λ w lo hi. absurd (omega arith)) (λ x. g at (omega arith) (omega arith)) (sweep_skip m (suc at) (omega arith) some h (λ w lo hi. g w (omega arith) hi) v))

-- Where words of a kept run are covered the sweep gives the list cut there.
sweep_cut : {k : ℕ} {cov cov' : ℕ → Bool} {e at a s : ℕ} {l : List Interval} → 1 ≤ k → 1 ≤ s → Marks cov cov' a s → Sweep k cov e at l → (j : ℕ) → In l a s j → Sweep k cov' e at (cut k a s l j)
unfolding cut
sweep_cut some size mk ends j i = absurd (omega arith)
sweep_cut {k} {cov} {cov'} {e} {at} {a} {s} some size mk (stretch {l = l} n b q r f c v) j i =
    let ih : (j : ℕ) → In l a s j → Sweep k cov' e (suc b) (cut k a s l j) = λ j i. sweep_cut some size mk v j i in
    kept_cases (λ m. (j : ℕ) → In m a s j → Sweep k cov' e at (cut k a s m j)) k at n l (long ih)
    (λ x j i. subst (λ (m : List Interval). Sweep k cov' e at m) (kept_short k at n (cut k a s l j) x) (later j i (ih j i))) j i
  where
    later : {m : List Interval} (j : ℕ) → In l a s j → Sweep k cov' e (suc b) m → Sweep k cov' e at (kept k at n m)
    later j i u =
        let h : b < a = omega (arith, sweep_longest some v j i.there) in
        stretch n b q r (λ w lo hi. mk.below w (omega arith) ∙ f w lo hi) (λ o. mk.below b h ∙ c o) u

    long : ((j : ℕ) → In l a s j → Sweep k cov' e (suc b) (cut k a s l j)) → k ≤ n → (j : ℕ) → In (record { start = at; size = n } ∷ l) a s j → Sweep k cov' e at (cut k a s (record { start = at; size = n } ∷ l) j)
    long ih y zero i =
        stretch {at = at} (a - at) a (omega arith) (omega arith) (λ w lo hi. mk.below w hi ∙ f w lo (omega arith)) (λ o. mk.inside a (omega arith) (omega arith))
        (sweep_skip (s - 1) (suc a) (omega arith) some (omega arith) (λ w lo hi. mk.inside w (omega arith) (omega arith))
        (stretch {at = a + s} (at + n - (a + s)) b (omega arith) r (λ w lo hi. mk.above w lo ∙ f w (omega arith) hi) (λ o. mk.above b (omega arith) ∙ c o) (sweep_agree (λ w lo hi. mk.above w (omega arith)) v)))
    long ih y (suc j) i =
        let i' : In l a s j = record { there = omega arith; low = i.low; high = i.high } in
        subst (λ (m : List Interval). Sweep k cov' e at m) (kept_long k at n (cut k a s l j) y) (later j i' (ih j i'))

-- The list after words of a listed interval are covered is the old list, cut there.
pub runs_cut : (k h : ℕ) (cov cov' : ℕ → Bool) (a s j : ℕ) → 1 ≤ k → 1 ≤ s → Marks cov cov' a s → In (runs k h cov) a s j → runs k h cov' ≡ cut k a s (runs k h cov) j
runs_cut k h cov cov' a s j some size mk i = sweep_runs h (sweep_cut some size mk (runs_sweep k h cov) j i)
