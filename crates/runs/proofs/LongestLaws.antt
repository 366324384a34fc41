-- The list holds the longest runs, all of them and nothing else.
use Rattle.std.specs.Prelude.{ℕ, zero, suc, ◌+◌, ◌-◌, ◌≤◌, ◌<◌, ◌≡◌, ◌↔◌, Bool, true, false, List, ◌∷◌, length}
use Rattle.std.proofs.Common.{sym, subst, arith}
use mathlib.Mathlib.Data.Bool.Basic.{eq-false_of_not-eq-true}
use Rattle.std.proofs.Math.Decide.{dec_le}
use Rattle.layout.specs.declared.Interval.{Interval}
use Rattle.runs.specs.Runs.{kept, runs}
use Rattle.runs.specs.Covers.{Free}
use Rattle.runs.specs.Lists.{interval_at, end, Member, Holds, Longest}
use Rattle.runs.proofs.Sweep.{Sweep, ends, stretch, kept_cases, runs_sweep}

-- No word is both covered and free.
pub clash : {t : Bool} → t ≡ true → t ≡ false → ⊥
clash p q = let z : ◌≡◌ {A = ℕ} 0 1 = cc in omega arith

-- A longest run past the word b, which closes a stretch, is one from any word before b on.
widen : {k : ℕ} {Taken : ℕ → Type 0} {e b : ℕ} {i : Interval} (at : ℕ) → 1 ≤ k → at ≤ b → (b < e → Taken b) → Longest k Taken (suc b) e i → Longest k Taken at e i
widen {Taken = Taken} {b = b} {i = i} at some h c g =
    record { low = omega arith; high = g.high; enough = g.enough; free = g.free; before = λ _. edge (dec_le i.start (suc b)); after = g.after }
  where
    edge : Dec (i.start ≤ suc b) → Taken (i.start - 1)
    edge (yes p) = subst Taken (omega arith) (c (omega arith))
    edge (no p) = g.before (omega arith)

-- Whether a run is longest goes by what is taken.
pub longest_same : {k lo e : ℕ} {P Q : ℕ → Type 0} {i : Interval} → ((w : ℕ) → P w ↔ Q w) → Longest k P lo e i → Longest k Q lo e i
longest_same {i = i} same g =
    record { low = g.low; high = g.high; enough = g.enough; free = λ w lo hi q. g.free w lo hi ((same w).1 q); before = λ l. (same (i.start - 1)).0 (g.before l); after = λ l. (same (end i)).0 (g.after l) }

-- What a cover takes.
abbrev pub Covered : (ℕ → Bool) → ℕ → Type 0
Covered cov w = cov w ≡ true

-- What is listed is a longest run.
pub sweep_longest : {k : ℕ} {cov : ℕ → Bool} {e at : ℕ} {l : List Interval} → 1 ≤ k → Sweep k cov e at l → (j : ℕ) → j < length l → Longest k (Covered cov) at e (interval_at l j)
sweep_longest some ends j h = absurd (omega arith)
sweep_longest {k} {cov} {e} {at} some (stretch {l = l} n b q r f c v) j h =
    let ih : (j : ℕ) → j < length l → Longest k (Covered cov) at e (interval_at l j) = λ j h. widen at some (omega arith) c (sweep_longest some v j h) in
    kept_cases (λ m. (j : ℕ) → j < length m → Longest k (Covered cov) at e (interval_at m j)) k at n l (first ih) (λ x. ih) j h
  where
    first : ((j : ℕ) → j < length l → Longest k (Covered cov) at e (interval_at l j)) → k ≤ n → (j : ℕ) → j < suc (length l)
        → Longest k (Covered cov) at e (interval_at (record { start = at; size = n } ∷ l) j)
    first ih y zero h =
        record { low = omega arith; high = omega arith; enough = y; free = λ w lo hi taken. clash taken (f w lo (omega arith)); before = λ o. absurd (omega arith); after = λ o. rw q (c (omega arith)) }
    first ih y (suc j) h = ih j (omega arith)

-- An interval is its start and its size.
same_interval : {i : Interval} {a n : ℕ} → i.start ≡ a → i.size ≡ n → i ≡ record { start = a; size = n }
same_interval p q = λ t. record { start = p t; size = q t }

-- What stands in a list stands in one with a run in front.
member_kept : (k at n : ℕ) (l : List Interval) {i : Interval} → Member l i → Member (kept k at n l) i
member_kept k at n l {i} g = kept_cases (λ m. Member m i) k at n l (λ y. (suc g.0, omega arith, g.2)) (λ x. g)

-- Every longest run is listed.
longest_member : {k : ℕ} {cov : ℕ → Bool} {e at : ℕ} {l : List Interval} {i : Interval} → 1 ≤ k → Sweep k cov e at l → Longest k (Covered cov) at e i → Member l i
longest_member some ends g = absurd (omega arith)
longest_member {k} {cov} {e} {at} {i = i} some (stretch {l = l} n b q r f c v) g =
    elim (dec_le i.start b) [ yes h ↦ this h | no h ↦ member_kept k at n l (longest_member some v (later h)) ]
  where
    later : ¬ (i.start ≤ b) → Longest k (Covered cov) (suc b) e i
    later h = record { low = omega arith; high = g.high; enough = g.enough; free = g.free; before = λ o. g.before (omega arith); after = g.after }

    this : i.start ≤ b → Member (kept k at n l) i
    this h =
        let m : end i ≤ b = elim (dec_le (end i) b) [ yes x ↦ x | no x ↦ absurd (g.free b h (omega arith) (c (omega arith))) ] in
        let s : i.start ≡ at = elim (dec_le i.start at) [ yes x ↦ omega arith | no x ↦ absurd (clash (g.before (omega arith)) (f (i.start - 1) (omega arith) (omega arith))) ] in
        let z : i.size ≡ n = elim (dec_le b (end i)) [ yes x ↦ omega arith | no x ↦ absurd (clash (g.after (omega arith)) (f (end i) (omega arith) (omega arith))) ] in
        kept_cases (λ m. Member m i) k at n l (λ y. (0, omega arith, sym (same_interval s z))) (λ x. absurd (omega arith))

-- An interval stands in the list if and only if it is a longest run of free words in 1..h-1 with at least k of them.
pub runs_longest : (k h : ℕ) (cov : ℕ → Bool) (i : Interval) → 1 ≤ k → Member (runs k h cov) i ↔ Longest k (Covered cov) 1 h i
runs_longest k h cov i some = (
  λ m. sound (subst (λ (x : Interval). Longest k (Covered cov) 1 (suc (h - 1)) x) m.2 (sweep_longest some (runs_sweep k h cov) m.0 m.1)),
  λ g. longest_member some (runs_sweep k h cov) (subst (λ (x : ℕ). Longest k (Covered cov) 1 x i) (omega arith) g),
)
  where
    sound : Longest k (Covered cov) 1 (suc (h - 1)) i → Longest k (Covered cov) 1 h i
    sound g = subst (λ (x : ℕ). Longest k (Covered cov) 1 x i) (omega arith) g

-- Words that lie in an interval of a list lie in one of a list with a run in front.
holds_kept : (k at n : ℕ) (l : List Interval) (a s : ℕ) → Holds l a s → Holds (kept k at n l) a s
holds_kept k at n l a s g = kept_cases (λ m. Holds m a s) k at n l (λ y. (suc g.0, record { there = omega arith; low = g.1.low; high = g.1.high })) (λ x. g)

-- A free stretch that has the keep length lies in a kept run.
sweep_holds : {k : ℕ} {cov : ℕ → Bool} {e at : ℕ} {l : List Interval} (a s : ℕ) → 1 ≤ k → k ≤ s → at ≤ a → a + s ≤ e → Free cov a (a + s) → Sweep k cov e at l → Holds l a s
sweep_holds a s some enough lo hi g ends = absurd (omega arith)
sweep_holds {k} {cov} {e} {at} a s some enough lo hi g (stretch {l = l} n b q r f c v) =
    elim (dec_le (a + s) b) [
      | yes h ↦ kept_cases (λ m. Holds m a s) k at n l (λ y. (0, record { there = omega arith; low = lo; high = omega arith })) (λ x. absurd (omega arith))
      | no h ↦ elim (dec_le a b) [ yes x ↦ absurd (clash (c (omega arith)) (g b x (omega arith))) | no x ↦ holds_kept k at n l a s (sweep_holds a s some enough (omega arith) hi g v) ]
    ]

-- A stretch of k words or more in 1..h-1 is free if and only if it lies in a listed interval.
pub runs_holds : (k h : ℕ) (cov : ℕ → Bool) (a s : ℕ) → 1 ≤ k → k ≤ s → 1 ≤ a → a + s ≤ h → Free cov a (a + s) ↔ Holds (runs k h cov) a s
runs_holds k h cov a s some enough lo hi =
    (λ g. sweep_holds a s some enough lo (omega arith) g (runs_sweep k h cov), λ g w x y. eq-false_of_not-eq-true ((sweep_longest some (runs_sweep k h cov) g.0 g.1.there).free w (omega arith) (omega arith)))
