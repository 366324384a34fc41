-- How many words the list has, and how many intervals.
use Rattle.std.specs.Prelude.{ℕ, zero, suc, ◌+◌, ◌-◌, ◌≤◌, ◌≡◌, Bool, true, false, cond, List, [], ◌∷◌, length}
use Rattle.std.proofs.Common.{ap, arith}
use Rattle.layout.specs.declared.Interval.{Interval}
use Rattle.layout.specs.Limits.{list_room}
use Rattle.runs.specs.Runs.{kept, runs_from, runs}
use Rattle.runs.specs.Covers.{covered_in}
use Rattle.runs.specs.Lists.{end, In, Ordered, none, one, cut, listed}
use Rattle.runs.proofs.Sweep.{kept_cases}
use Rattle.runs.proofs.OrderLaws.{runs_ordered, ordered_count}

-- A run in front adds at most its words.
listed_kept : (k at n : ℕ) (l : List Interval) → listed (kept k at n l) ≤ n + listed l
unfolding listed
listed_kept k at n l = kept_cases (λ m. listed m ≤ n + listed l) k at n l (λ y. omega arith) (λ x. omega arith)

-- Words listed by a scan and words covered are no more than the words scanned.
scan_listed : (k : ℕ) (cov : ℕ → Bool) (at n left b : ℕ) → at + n ≡ b → listed (runs_from k cov at n left) + covered_in cov b left ≤ n + left
unfolding listed covered_in runs_from
scan_listed k cov at n zero b p = omega (arith, listed_kept k at n [])
scan_listed k cov at n (suc left) b p = go (λ at' n'. scan_listed k cov at' n' left (suc b)) (cov b) (ap cov p)
  where
    go : ((at' n' : ℕ) → at' + n' ≡ suc b → listed (runs_from k cov at' n' left) + covered_in cov (suc b) left ≤ n' + left) → (t : Bool) → cov (at + n) ≡ t
        → listed (cond (cov (at + n)) (kept k at n (runs_from k cov (suc (at + n)) 0 left)) (runs_from k cov at (suc n) left)) + (cond t 1 0 + covered_in cov (suc b) left) ≤ n + suc left
    go ih true c = rw c (omega (arith, listed_kept k at n (runs_from k cov (suc (at + n)) 0 left), ih (suc (at + n)) 0 (omega arith)))
    go ih false c = rw c (omega (arith, ih at (suc n) (omega arith)))

-- Listed words and covered words fit in words 1 to h-1.
pub runs_listed : (k h : ℕ) (cov : ℕ → Bool) → listed (runs k h cov) + covered_in cov 1 (h - 1) ≤ h - 1
unfolding runs
runs_listed k h cov = omega (arith, scan_listed k cov 1 0 (h - 1) 1 (omega arith))

-- A cut of s words takes at least s words off the list.
pub cut_listed : (k a s : ℕ) (l : List Interval) (j : ℕ) → In l a s j → listed (cut k a s l j) + s ≤ listed l
unfolding cut listed
cut_listed k a s [] j i = absurd (omega arith)
cut_listed k a s (x ∷ l) zero i =
    let rest : List Interval = kept k (a + s) (end x - (a + s)) l in
    omega (arith, listed_kept k x.start (a - x.start) rest, listed_kept k (a + s) (end x - (a + s)) l)
cut_listed k a s (x ∷ l) (suc j) i = omega (arith, cut_listed k a s l j (record { there = omega arith; low = i.low; high = i.high }))

-- The words of an ordered list fit where it lies.
pub ordered_listed : {k g e lo : ℕ} {l : List Interval} → Ordered k g e lo l → listed l ≤ e - lo
unfolding listed
ordered_listed none = omega arith
ordered_listed (one {i = i} a b c o) = omega (arith, ordered_listed o)

-- The list has no more intervals than there is room for, whatever is covered.
pub runs_count : (t h : ℕ) (cov : ℕ → Bool) → 1 ≤ t → length (runs t h cov) ≤ list_room h t
runs_count t h cov some = ordered_count some (runs_ordered t h cov some)
