-- The list goes by address, with covered words between its intervals.
use Rattle.std.specs.Prelude.{ℕ, zero, suc, ◌+◌, ◌-◌, ◌*◌, ◌/◌, ◌≤◌, ◌<◌, ◌≡◌, Bool, true, List, ◌∷◌, length}
use Rattle.std.proofs.Common.{subst, le-div_iff_mul-le, arith}
use Rattle.std.proofs.Math.Decide.{dec_le}
use Rattle.layout.specs.declared.Interval.{Interval}
use Rattle.layout.specs.Limits.{stack_words, list_room, list_words}
use Rattle.runs.specs.Runs.{kept, runs}
use Rattle.runs.specs.Covers.{Thick}
use Rattle.runs.specs.Lists.{interval_at, end, In, Ordered, none, one, cut}
use Rattle.runs.proofs.Sweep.{Sweep, ends, stretch, kept_cases, runs_sweep}
use Rattle.runs.proofs.LongestLaws.{clash}

-- A list that lies from lo on lies from any word before it on.
ordered_low : {k g e lo lo' : ℕ} {l : List Interval} → lo' ≤ lo → Ordered k g e lo l → Ordered k g e lo' l
ordered_low h none = none
ordered_low {lo' = lo'} h (one {i = i} a b c o) = one {lo = lo'} {i = i} (omega arith) b c o

-- Where t words of cover close each run, the next lies past them; the words from `at` to x are covered.
sweep_ordered : {k : ℕ} {cov : ℕ → Bool} {e at : ℕ} {l : List Interval} (lo t x : ℕ) → 1 ≤ k → 1 ≤ t → Thick cov lo e t → lo ≤ at → at ≤ x → ((w : ℕ) → at ≤ w → w < x → w < e → cov w ≡ true) → Sweep k cov e at l → Ordered k t e x l
sweep_ordered lo t x k1 t1 th p q g ends = none
sweep_ordered {k} {cov} {e} {at} lo t x k1 t1 th p q g (stretch {l = l} n b u r f c v) =
    kept_cases (λ m. Ordered k t e x m) k at n l (long (λ y g'. sweep_ordered lo t (at + n + t) k1 t1 th (omega arith) (omega arith) g' v)) (short (λ z o g'. sweep_ordered lo t z k1 t1 th (omega arith) o g' v))
  where
    long : (k ≤ n → ((w : ℕ) → suc b ≤ w → w < at + n + t → w < e → cov w ≡ true) → Ordered k t e (at + n + t) l) → k ≤ n → Ordered k t e x (record { start = at; size = n } ∷ l)
    long ih y =
        let s : x ≤ at = elim (dec_le x at) [ yes h ↦ h | no h ↦ absurd (clash (g at (omega arith) (omega arith) (omega arith)) (f at (omega arith) (omega arith))) ] in
        one {lo = x} {i = record { start = at; size = n }} s y (omega arith) (ih y (λ w h h' o. th b (omega arith) (f (b - 1) (omega arith) (omega arith)) (c (omega arith)) w (omega arith) (omega arith) o))

    short : ((z : ℕ) → suc b ≤ z → ((w : ℕ) → suc b ≤ w → w < z → w < e → cov w ≡ true) → Ordered k t e z l) → n < k → Ordered k t e x l
    short ih y = elim (dec_le x (suc b)) [ yes h ↦ ordered_low (omega arith) (ih (suc b) (omega arith) (λ w i i' o. absurd (omega arith))) | no h ↦ ih x (omega arith) (λ w i i' o. g w (omega arith) i' o) ]

-- The end of the sweep is the heap's.
ordered_high : {k g : ℕ} (h : ℕ) {lo : ℕ} {l : List Interval} → 1 ≤ k → 1 ≤ lo → Ordered k g (suc (h - 1)) lo l → Ordered k g h lo l
ordered_high h k1 l1 none = none
ordered_high h k1 l1 (one {i = i} a b c o) = one {i = i} a b (omega arith) (ordered_high h k1 (omega arith) o)

-- Where each covered stretch has t words, t words or more lie between neighbours.
pub runs_apart : (k h t : ℕ) (cov : ℕ → Bool) → 1 ≤ k → 1 ≤ t → Thick cov 1 h t → Ordered k t h 1 (runs k h cov)
runs_apart k h t cov k1 t1 th =
    ordered_high h k1 (omega arith) (sweep_ordered 1 t 1 k1 t1 (λ b p q r w x y z. th b p q r w x y (omega arith)) (omega arith) (omega arith) (λ w x y z. absurd (omega arith)) (runs_sweep k h cov))

-- Each interval ends below the next one's start.
pub runs_ordered : (k h : ℕ) (cov : ℕ → Bool) → 1 ≤ k → Ordered k 1 h 1 (runs k h cov)
runs_ordered k h cov k1 = runs_apart k h 1 cov k1 (omega arith) (λ b p q r w x y z. subst (λ (v : ℕ). cov v ≡ true) (omega arith) r)

-- Every interval starts at the low end or past it.
pub ordered_first : {k g e lo : ℕ} {l : List Interval} → Ordered k g e lo l → (j : ℕ) → j < length l → lo ≤ (interval_at l j).start
ordered_first none j q = absurd (omega arith)
ordered_first (one a b c o) zero q = a
ordered_first (one {i = i} a b c o) (suc j) q = omega (arith, ordered_first o j (omega arith))

-- Every interval ends at the high end or before it.
pub ordered_last : {k g e lo : ℕ} {l : List Interval} → Ordered k g e lo l → (j : ℕ) → j < length l → end (interval_at l j) ≤ e
ordered_last none j q = absurd (omega arith)
ordered_last (one a b c o) zero q = c
ordered_last (one a b c o) (suc j) q = ordered_last o j (omega arith)

-- An interval behind another starts past its end, with g words between.
pub ordered_apart : {k g e lo : ℕ} {l : List Interval} → Ordered k g e lo l → (i j : ℕ) → i < j → j < length l → end (interval_at l i) + g ≤ (interval_at l j).start
ordered_apart none i j p q = absurd (omega arith)
ordered_apart (one a b c o) i zero p q = absurd (omega arith)
ordered_apart (one a b c o) zero (suc j) p q = ordered_first o j (omega arith)
ordered_apart (one a b c o) (suc i) (suc j) p q = ordered_apart o i j (omega arith) (omega arith)

-- Of two intervals that contain the same words neither stands behind the other.
in_below : {k g e lo : ℕ} {l : List Interval} {a s i j : ℕ} → 1 ≤ g → Ordered k g e lo l → In l a s i → In l a s j → i ≤ j
in_below {i = i} {j = j} g1 o p q = elim (dec_le i j) [ yes x ↦ x | no x ↦ absurd (omega (arith, ordered_apart o j i (omega arith) p.there, p.low, q.high)) ]

-- At most one interval of an ordered list contains given words.
pub in_unique : {k g e lo : ℕ} {l : List Interval} {a s i j : ℕ} → 1 ≤ g → Ordered k g e lo l → In l a s i → In l a s j → i ≡ j
in_unique g1 o p q = omega (arith, in_below g1 o p q, in_below g1 o q p)

-- A run in front of an ordered list keeps the order.
ordered_kept : {k g e lo up : ℕ} {l : List Interval} (at n : ℕ) → lo ≤ at → at + n ≤ e → at + n + g ≤ up → Ordered k g e up l → Ordered k g e lo (kept k at n l)
ordered_kept {k} {g} {e} {lo} {up} {l} at n a b c o =
    kept_cases (λ m. Ordered k g e lo m) k at n l (λ y. one {lo = lo} {i = record { start = at; size = n }} a y b (ordered_low c o)) (λ x. ordered_low (omega arith) o)

-- A cut of at least g words keeps the order.
pub ordered_cut : {k g e lo a s : ℕ} {l : List Interval} → g ≤ s → Ordered k g e lo l → (j : ℕ) → In l a s j → Ordered k g e lo (cut k a s l j)
unfolding cut
ordered_cut s1 none j i = absurd (omega (arith, i.there))
ordered_cut {k} {g} {e} {lo} {a} {s} s1 (one {i = x} p q r o) zero i =
    ordered_kept x.start (a - x.start) p (omega (arith, i.low, i.high)) (omega (arith, i.low)) (ordered_kept {lo = a + g} (a + s) (end x - (a + s)) (omega arith) (omega (arith, i.high)) (omega (arith, i.high)) o)
ordered_cut s1 (one {i = x} p q r o) (suc j) i = one {i = x} p q r (ordered_cut s1 o j (record { there = omega (arith, i.there); low = i.low; high = i.high }))

-- Intervals with the words between them fit where they lie.
ordered_room : {k g e lo : ℕ} {l : List Interval} → lo ≤ e + g → Ordered k g e lo l → length l * (k + g) + lo ≤ e + g
ordered_room h none = omega arith
ordered_room h (one {i = i} a b c o) = omega (arith, ordered_room (omega arith) o)

-- A list of intervals of t words, in order, has no more of them than there is room for.
pub ordered_count : {t h : ℕ} {l : List Interval} → 1 ≤ t → Ordered t 1 h 1 l → length l ≤ list_room h t
unfolding list_room stack_words
ordered_count {t} {h} {l} some o = (le-div_iff_mul-le some).1 (go (length l) (ordered_room (omega arith) o))
  where
    go : (n : ℕ) → n * (t + 1) + 1 ≤ h + 1 → n * t ≤ h - 1
    go zero p = omega arith
    go (suc n) p = omega arith

-- With t words between neighbours it has about half as many.
pub apart_count : {t h : ℕ} {l : List Interval} → 1 ≤ t → Ordered t t h 1 l → length l ≤ (h - 1 + t) / (2 * t)
apart_count {t} {h} {l} some o = (le-div_iff_mul-le {k = 2 * t} (omega arith)).1 (omega (arith, ordered_room (omega arith) o))

-- A cut of an ordered list fits in the needed part.
pub cut_fits : {t h a s : ℕ} {l : List Interval} → 1 ≤ t → 1 ≤ s → Ordered t 1 h 1 l → (j : ℕ) → In l a s j → 2 * length (cut t a s l j) ≤ list_words h t
unfolding list_words
cut_fits some size o j i = omega (arith, ordered_count some (ordered_cut size o j i))
