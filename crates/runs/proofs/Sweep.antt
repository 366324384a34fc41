-- A relation that fixes the list, by which every law of `runs` is proved.
use Rattle.std.specs.Prelude.{ℕ, zero, suc, ◌+◌, ◌-◌, ◌≤◌, ◌<◌, ◌≡◌, refl, Bool, true, false, cond, List, [], ◌∷◌, leb}
use Rattle.std.proofs.Common.{ap, subst, ◌∙◌, arith, leb-true, leb-false}
use Rattle.std.proofs.Math.Decide.{dec_le}
use Rattle.layout.specs.RefusalLaws.{by_test}
use Rattle.layout.specs.declared.Interval.{Interval}
use Rattle.runs.specs.Runs.{kept, runs_from, runs}
use Rattle.runs.specs.Covers.{Free}

-- The list l of the runs kept from the word `at` on, up to e: a stretch of n free words is closed at b, by a covered word or by e itself.
pub data Sweep (k : ℕ) (cov : ℕ → Bool) (e : ℕ) : ℕ → List Interval → Type 0 where
  ends : Sweep k cov e (suc e) []
  stretch : {at : ℕ} {l : List Interval} (n b : ℕ) → at + n ≡ b → b ≤ e → Free cov at b → (b < e → cov b ≡ true) → Sweep k cov e (suc b) l → Sweep k cov e at (kept k at n l)

-- Words that have the keep length are listed, and others are not.
pub kept_cases : (P : List Interval → Type 0) (k at n : ℕ) (l : List Interval) → (k ≤ n → P (record { start = at; size = n } ∷ l)) → (n < k → P l) → P (kept k at n l)
unfolding kept
kept_cases P k at n l long short = by_test P (leb k n) (λ e. long (leb-true k n e)) (λ e. short (leb-false k n e))

-- A run that has the keep length is listed.
pub kept_long : (k at n : ℕ) (l : List Interval) → k ≤ n → kept k at n l ≡ record { start = at; size = n } ∷ l
kept_long k at n l h = kept_cases (λ m. m ≡ record { start = at; size = n } ∷ l) k at n l (λ y. refl) (λ x. absurd (omega arith))

-- A shorter one is not.
pub kept_short : (k at n : ℕ) (l : List Interval) → n < k → kept k at n l ≡ l
kept_short k at n l h = kept_cases (λ m. m ≡ l) k at n l (λ y. absurd (omega arith)) (λ x. refl)

-- The scan's list is swept.
scan_sweeps : (k : ℕ) (cov : ℕ → Bool) (at n left e : ℕ) → at + n + left ≡ e → Free cov at (at + n) → Sweep k cov e at (runs_from k cov at n left)
unfolding runs_from
scan_sweeps k cov at n zero e p f =
    stretch n (at + n) refl (omega arith) f (λ h. absurd (omega arith)) (subst (λ (x : ℕ). Sweep k cov e (suc x) []) (omega arith) ends)
scan_sweeps k cov at n (suc left) e p f = go (λ at' n'. scan_sweeps k cov at' n' left e) (cov (at + n)) refl
  where
    go : ((at' n' : ℕ) → at' + n' + left ≡ e → Free cov at' (at' + n') → Sweep k cov e at' (runs_from k cov at' n' left)) → (t : Bool) → cov (at + n) ≡ t
        → Sweep k cov e at (cond t (kept k at n (runs_from k cov (suc (at + n)) 0 left)) (runs_from k cov at (suc n) left))
    go ih true c = stretch n (at + n) refl (omega arith) f (λ h. c) (ih (suc (at + n)) 0 (omega arith) (λ w lo hi. absurd (omega arith)))
    go ih false c =
        ih at (suc n) (omega arith) (λ w lo hi. elim (dec_le (at + n) w) [ yes h ↦ subst (λ (x : ℕ). cov x ≡ false) (omega arith) c | no h ↦ f w lo (omega arith) ])

-- The list is swept over words 1 to h-1.
pub runs_sweep : (k h : ℕ) (cov : ℕ → Bool) → Sweep k cov (suc (h - 1)) 1 (runs k h cov)
unfolding runs
runs_sweep k h cov = scan_sweeps k cov 1 0 (h - 1) (suc (h - 1)) (omega arith) (λ w lo hi. absurd (omega arith))

-- A free word lengthens the open run.
scan_open : (k : ℕ) (cov : ℕ → Bool) (at n left : ℕ) → cov (at + n) ≡ false → runs_from k cov at n (suc left) ≡ runs_from k cov at (suc n) left
unfolding runs_from
scan_open k cov at n left c = rw (c, runs_from)

-- A free stretch is scanned in one go.
scan_free : (k : ℕ) (cov : ℕ → Bool) (at n m n' left all : ℕ) → n + m ≡ n' → m + left ≡ all → Free cov (at + n) (at + n') → runs_from k cov at n all ≡ runs_from k cov at n' left
scan_free k cov at n zero n' left all p q f =
    let l : n ≡ n' = omega arith in
    let a : all ≡ left = omega arith in
    cc
scan_free k cov at n (suc m) n' left all p q f =
    let a : all ≡ suc (m + left) = omega arith in
    rw (a, scan_open k cov at n (m + left) (f (at + n) (omega arith) (omega arith)))
    (scan_free k cov at (suc n) m n' left (m + left) (omega arith) refl (λ w lo hi. f w (omega arith) hi))

-- A covered word closes it.
scan_closed : (k : ℕ) (cov : ℕ → Bool) (at n b left : ℕ) → at + n ≡ b → cov b ≡ true → runs_from k cov at n (suc left) ≡ kept k at n (runs_from k cov (suc b) 0 left)
unfolding runs_from
scan_closed k cov at n b left q c =
    let c' : cov (at + n) ≡ true = rw q c in
    rw (c', runs_from) (ap (λ (x : ℕ). kept k at n (runs_from k cov (suc x) 0 left)) q)

-- Nothing is listed from the end on.
sweep_end : {k : ℕ} {cov : ℕ → Bool} {e at : ℕ} {l : List Interval} → at ≡ suc e → Sweep k cov e at l → l ≡ []
sweep_end p ends = refl
sweep_end p (stretch n b q r f c v) = absurd (omega arith)

-- What is swept is the scan's list.
sweep_scan : {k : ℕ} {cov : ℕ → Bool} {e at : ℕ} {l : List Interval} (left : ℕ) → at + left ≡ e → Sweep k cov e at l → runs_from k cov at 0 left ≡ l
unfolding runs_from
sweep_scan left p ends = absurd (omega arith)
sweep_scan {k} {cov} {e} {at} left p (stretch {l = l} n b q r f c v) =
    scan_free k cov at 0 n n (e - b) left (omega arith) (omega arith) (λ w lo hi. f w (omega arith) (omega arith)) ∙ go (λ m h. sweep_scan m h v) (e - b) (omega arith)
  where
    go : ((m : ℕ) → suc b + m ≡ e → runs_from k cov (suc b) 0 m ≡ l) → (m : ℕ) → b + m ≡ e → runs_from k cov at n m ≡ kept k at n l
    go ih zero h = rw (sweep_end (omega arith) v)
    go ih (suc m) h = scan_closed k cov at n b m q (c (omega arith)) ∙ ap (kept k at n) (ih m (omega arith))

-- What is swept over these words is the list.
pub sweep_runs : {k : ℕ} {cov : ℕ → Bool} (h : ℕ) {l : List Interval} → Sweep k cov (suc (h - 1)) 1 l → runs k h cov ≡ l
unfolding runs
sweep_runs h v = sweep_scan (h - 1) (omega arith) v
