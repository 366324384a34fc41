-- Laws of the searches.
use Prim.Native.Nat.{ℕ, zero, suc, ◌+◌, ◌≤◌, ◌<◌}
use Rattle.std.specs.Prelude.{◌≡◌, refl, Bool, true, false, cond, List, [], ◌∷◌, length, get_or, drop, leb, Option, Some, None}
use Rattle.std.proofs.Common.{◌∙◌, sym, ap, subst, drop_of_length-le}
use Rattle.std.specs.List.Sorted.{IsPartitionedBy, IsPartitionPoint}
use Rattle.std.proofs.Math.Bool.{and-eq-true_iff, and-false}
use native.Mathlib.Omega.{arith}
use Rattle.std.proofs.Math.Decide.{dec_le, ℕ_discrete}
use borrow.Author.Tests.{le-leb, lt-leb, leb-true, leb-false}
use Rattle.layout.specs.declared.Interval.{Interval}
use Rattle.runs.specs.Lists.{interval_at, end, In, Holds, Ordered}
use Rattle.runs.proofs.LongestLaws.{clash}
use Rattle.runs.proofs.OrderLaws.{ordered_apart}
use Rattle.freelist.specs.Records.{record_at, records, intervals}
use Rattle.freelist.specs.RecordsLaws.{length-records, record_at_lem, length-intervals, interval_pair, interval_next}
use Rattle.freelist.specs.Search.{first_from, fits, fitting, contains, holder, Sorted}

-- An ordered list is sorted.
pub ordered_sorted : {k g e lo : ℕ} {l : List Interval} → 1 ≤ g → Ordered k g e lo l → Sorted l
ordered_sorted some o i j p q = omega (arith, ordered_apart o i j p q)

-- What a search for a test tells of the list, where its first interval has the place j.
abbrev Tells : (Interval → Bool) → ℕ → List Interval → Option ℕ → Type 0
Tells test j l (Some p) = (n : ℕ) × (j + n ≡ p) × (n < length l) × (test (interval_at l n) ≡ true) × ((m : ℕ) → m < n → test (interval_at l m) ≡ false)
Tells test j l None = (m : ℕ) → m < length l → test (interval_at l m) ≡ false

-- The interval found passes and none before it does; where none is found, none passes.
first_tells : (test : Interval → Bool) (j : ℕ) (l : List Interval) → Tells test j l (first_from test j l)
unfolding first_from
first_tells test j [] = λ m h. absurd (omega arith)
first_tells test j (i ∷ l) = go (test i) refl (first_tells test (suc j) l)
  where
    later : (f : Option ℕ) → test i ≡ false → Tells test (suc j) l f → Tells test j (i ∷ l) f
    later (Some p) fails (n, e, h, q, b) = (suc n, omega arith, omega arith, q, before)
      where
        before : (m : ℕ) → m < suc n → test (interval_at (i ∷ l) m) ≡ false
        before zero o = fails
        before (suc m) o = b m (omega arith)
    later None fails b = every
      where
        every : (m : ℕ) → m < suc (length l) → test (interval_at (i ∷ l) m) ≡ false
        every zero o = fails
        every (suc m) o = b m (omega arith)

    go : (t : Bool) → test i ≡ t → Tells test (suc j) l (first_from test (suc j) l) → Tells test j (i ∷ l) (cond t (Some j) (first_from test (suc j) l))
    go true e ih = (0, omega arith, omega arith, e, λ m o. absurd (omega arith))
    go false e ih = later (first_from test (suc j) l) e ih

-- Only one answer tells so.
tells_first : (test : Interval → Bool) (j : ℕ) (l : List Interval) (f : Option ℕ) → Tells test j l f → first_from test j l ≡ f
tells_first test j l f t = same (first_from test j l) f (first_tells test j l) t
  where
    below : (m n : ℕ) → test (interval_at l m) ≡ true → ((i : ℕ) → i < n → test (interval_at l i) ≡ false) → n ≤ m
    below m n p q = elim (dec_le n m) [ yes h ↦ h | no h ↦ absurd (clash p (q m (omega arith))) ]

    same : (f g : Option ℕ) → Tells test j l f → Tells test j l g → f ≡ g
    same (Some p) (Some q) (m, d, o, x, y) (n, e, i, u, v) = ap Some (omega (arith, below m n x v, below n m u y))
    same (Some p) None (m, d, o, x, y) every = absurd (clash x (every m o))
    same None (Some q) every (n, e, i, u, v) = absurd (clash u (every n i))
    same None None every every' = refl

-- The turns of a search by place: none is left, this one passes, or the next is looked at.
module _ (test : Interval → Bool) (l : List Interval) (i : ℕ) where
  pub first_end : i ≡ length l → first_from test i (drop i l) ≡ None
  unfolding first_from
  first_end e = rw (drop_of_length-le l {i = i} (omega arith))

  pub first_here : i < length l → test (interval_at l i) ≡ true → first_from test i (drop i l) ≡ Some i
  unfolding first_from
  first_here h e = rw (interval_next l i h, first_from, e)

  pub first_next : i < length l → test (interval_at l i) ≡ false → first_from test i (drop i l) ≡ first_from test (i + 1) (drop (i + 1) l)
  unfolding first_from
  first_next h e =
      let next : i + 1 ≡ suc i = omega arith in
      rw (interval_next l i h, first_from, e, next)

-- What an answer of a search says of the list.
module _ (test : Interval → Bool) (l : List Interval) {f : Option ℕ} (e : f ≡ first_from test 0 l) where
  told : Tells test 0 l f
  told = rw e (first_tells test 0 l)

  -- The interval found stands there and passes.
  first_at : (j : ℕ) → f ≡ Some j → (j < length l) × (test (interval_at l j) ≡ true)
  first_at j p = go (subst (λ (g : Option ℕ). Tells test 0 l g) p told)
    where
      go : Tells test 0 l (Some j) → (j < length l) × (test (interval_at l j) ≡ true)
      go (n, q, h, t, b) =
          let here : n ≡ j = omega arith in
          (omega arith, subst (λ (m : ℕ). test (interval_at l m) ≡ true) here t)

  -- Where none is found none passes.
  first_none : f ≡ None → (j : ℕ) → j < length l → test (interval_at l j) ≡ false
  first_none p = subst (λ (g : Option ℕ). Tells test 0 l g) p told

-- What the choice for an allot of s words says of the list.
module _ (s : ℕ) (l : List Interval) {f : Option ℕ} (e : f ≡ fitting s l) where
  -- The chosen interval has the words.
  pub fitting_in : (j : ℕ) → f ≡ Some j → In l (interval_at l j).start s j
  unfolding fitting
  fitting_in j p =
      let x = first_at (fits s) l e j p in
      let size : s ≤ (interval_at l j).size = leb-true s (interval_at l j).size x.1 in
      record { there = x.0; low = omega arith; high = omega arith }

  -- None is chosen only if no listed interval has them.
  pub fitting_none : f ≡ None → (j : ℕ) → j < length l → (interval_at l j).size < s
  unfolding fitting
  fitting_none p j h = leb-false s (interval_at l j).size (first_none (fits s) l e p j h)

-- What an interval contains, by its two ends.
contains_in : (a s : ℕ) (i : Interval) → contains a s i ≡ true → (i.start ≤ a) × (a + s ≤ end i)
contains_in a s i e = let x = (and-eq-true_iff _ _).0 e in (leb-true i.start a x.0, leb-true (a + s) (end i) x.1)

-- And the other way.
in_contains : (a s : ℕ) (i : Interval) → i.start ≤ a → a + s ≤ end i → contains a s i ≡ true
in_contains a s i p q = rw (le-leb i.start a p, le-leb (a + s) (end i) q)

-- An interval that ends before the words do does not contain them.
before_contains : (a s : ℕ) (i : Interval) → end i < a + s → contains a s i ≡ false
before_contains a s i p = rw (lt-leb (a + s) (end i) p) (simp and-false)

-- Nor does one that starts behind their first.
behind_contains : (a s : ℕ) (i : Interval) → a < i.start → contains a s i ≡ false
behind_contains a s i p = rw (lt-leb i.start a p)

-- What the search for the s words from a on says of the list.
module _ (a s : ℕ) (l : List Interval) {f : Option ℕ} (e : f ≡ holder a s l) where
  -- The interval found contains them.
  pub holder_in : (j : ℕ) → f ≡ Some j → In l a s j
  unfolding holder
  holder_in j p =
      let x = first_at (contains a s) l e j p in
      let y = contains_in a s (interval_at l j) x.1 in
      record { there = x.0; low = y.0; high = y.1 }

  -- None is found only if none contains them.
  pub holder_none : f ≡ None → Holds l a s → ⊥
  unfolding holder
  holder_none p (j, i) = clash (in_contains a s (interval_at l j) i.low i.high) (first_none (contains a s) l e p j i.there)

-- Halving has come to one place: intervals before it end below a, those behind it start above a, and it alone is left to look at.
pub holder_left : (a s : ℕ) (l : List Interval) (lo hi : ℕ) → Sorted l → lo < length l → hi ≤ suc lo → (0 < lo → (interval_at l lo).start ≤ a) → (hi < length l → a < (interval_at l hi).start)
    → holder a s l ≡ cond (contains a s (interval_at l lo)) (Some lo) None
unfolding holder
holder_left a s l lo hi sorted inside near low high = go (contains a s (interval_at l lo)) refl
  where
    before : (m : ℕ) → m < lo → contains a s (interval_at l m) ≡ false
    before m h = before_contains a s (interval_at l m) (omega (arith, sorted m lo h inside, low (omega arith)))

    behind : (m : ℕ) → lo < m → m < length l → contains a s (interval_at l m) ≡ false
    behind m h o =
        elim (ℕ_discrete hi m) [
          | yes e ↦ behind_contains a s (interval_at l m) (subst (λ (t : ℕ). a < (interval_at l t).start) e (high (omega arith)))
          | no e ↦ behind_contains a s (interval_at l m) (omega (arith, sorted hi m (omega arith) o, high (omega arith)))
        ]

    go : (t : Bool) → contains a s (interval_at l lo) ≡ t → first_from (contains a s) 0 l ≡ cond t (Some lo) None
    go true e = tells_first (contains a s) 0 l (Some lo) (lo, omega arith, inside, e, before)
    go false e = tells_first (contains a s) 0 l None every
      where
        every : (m : ℕ) → m < length l → contains a s (interval_at l m) ≡ false
        every m o =
            elim (ℕ_discrete m lo) [
              | yes here ↦ subst (λ (t : ℕ). contains a s (interval_at l t) ≡ false) (sym here) e
              | no other ↦ elim (dec_le m lo) [ yes h ↦ before m (omega arith) | no h ↦ behind m (omega arith) o ]
            ]

-- The same of records, with what the test of that record gave.
pub holding_left : (a s n : ℕ) (list : List ℕ) (lo hi : ℕ) {r : Interval} {t : Bool} → r ≡ record_at list lo → Sorted (records n list) → lo < n → hi ≤ suc lo → (0 < lo → (record_at list lo).start ≤ a) → (hi < n → a < (record_at list hi).start)
    → contains a s r ≡ t → holder a s (records n list) ≡ cond t (Some lo) None
holding_left a s n list lo hi e sorted inside near low high test =
    let same : length (records n list) ≡ n = length-records n list in
    let here : interval_at (records n list) lo ≡ record_at list lo = record_at_lem n list lo inside in
    rw (← test, e ∙ sym here) (holder_left a s (records n list) lo hi sorted (omega arith) near (λ x. rw here (low x)) (λ x. rw (record_at_lem n list hi (omega arith)) (high (omega arith))))

-- Where the first interval starts behind a, none holds the words.
pub holding_none : (a s : ℕ) (l : List Interval) → Sorted l → (0 < length l → a < (interval_at l 0).start) → holder a s l ≡ None
unfolding holder
holding_none a s l sorted first = tells_first (contains a s) 0 l None every
  where
    every : (m : ℕ) → m < length l → contains a s (interval_at l m) ≡ false
    every zero h = behind_contains a s (interval_at l 0) (first (omega arith))
    every (suc m) h = behind_contains a s (interval_at l (suc m)) (omega (arith, sorted 0 (suc m) (omega arith) h, first (omega arith)))

-- A pair starts at a or before it.
abbrev pub starts_by : ℕ → List ℕ → Bool
starts_by a pair = leb (get_or pair 0 0) a

-- The pairs of a sorted list are parted by where they start.
module _ (a : ℕ) (pairs : List (List ℕ)) where
  starts : (i : ℕ) (d : List ℕ) → i < length pairs → get_or (get_or pairs i d) 0 0 ≡ (interval_at (intervals pairs) i).start
  starts i d h = ap (λ (x : Interval). x.start) (sym (interval_pair pairs i d h))

  pub pairs_parted : Sorted (intervals pairs) → IsPartitionedBy (starts_by a) pairs
  pairs_parted sorted i j d order there p =
      let start : (interval_at (intervals pairs) j).start ≤ a = rw (starts j d there) at (leb-true _ a p) in
      elim (ℕ_discrete i j) [
        | yes same ↦ subst (λ (m : ℕ). starts_by a (get_or pairs m d) ≡ true) (sym same) p
        | no other ↦ le-leb _ a (rw (starts i d (omega arith)) (omega (arith, sorted i j (omega arith) (omega (arith, length-intervals pairs)))))
      ]

  -- What the place between the two parts tells of the intervals on both its sides.
  pub pairs_point : (b : ℕ) → IsPartitionPoint (λ y. starts_by a y ≡ true) (λ y. starts_by a y ≡ false) pairs b
      → ((j : ℕ) → j < b → j < length pairs → (interval_at (intervals pairs) j).start ≤ a) × (b < length pairs → a < (interval_at (intervals pairs) b).start)
  pairs_point b point = (
    λ j low inside. rw (starts j [] inside) at (leb-true _ a (point.0 j [] (omega arith) low)),
    λ inside. rw (starts b [] inside) at (leb-false _ a (point.1 b [] (omega arith) inside)),
  )
