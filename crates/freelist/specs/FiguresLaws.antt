-- Laws of the survey's figures.
use Rattle.std.specs.Prelude.{ℕ, ◌+◌, ◌≤◌, ◌<◌, max, ◌≡◌, refl, Bool, true, false, cond, ltb, List, [], ◌∷◌, length, drop}
use Rattle.std.specs.Ordering.{ord_max, nat_cmp, is_lt}
use Rattle.std.specs.Bool.{◌==◌}
use Rattle.std.proofs.Common.{arith, ltb-true, ltb-false, Equal, Greater, drop_of_length-le}
use Rattle.layout.specs.declared.Interval.{Interval}
use Rattle.runs.specs.Lists.{interval_at, listed}
use Rattle.freelist.specs.RecordsLaws.{interval_next}
use Rattle.freelist.specs.Figures.{largest}

-- The largest interval has no more words than all together.
pub largest_listed : (l : List Interval) → largest l ≤ listed l
unfolding largest listed
largest_listed [] = omega arith
largest_listed (i ∷ l) = omega (arith, largest_listed l)

-- The figures, one interval at a time.
module _ (l : List Interval) (i : ℕ) (h : i < length l) where
  pub listed_next : listed (drop i l) ≡ (interval_at l i).size + listed (drop (i + 1) l)
  unfolding listed
  listed_next = rw (interval_next l i h, listed)

  pub largest_next : largest (drop i l) ≡ max (interval_at l i).size (largest (drop (i + 1) l))
  unfolding largest
  largest_next = rw (interval_next l i h, largest)

-- Past the last there is nothing to add.
module _ (l : List Interval) (i : ℕ) (e : i ≡ length l) where
  pub listed_end : listed (drop i l) ≡ 0
  unfolding listed
  listed_end = rw (drop_of_length-le l {i = i} (omega arith))

  pub largest_end : largest (drop i l) ≡ 0
  unfolding largest
  largest_end = rw (drop_of_length-le l {i = i} (omega arith))

-- The greater of two numbers, as the code picks it.
pub picked : (a b : ℕ) → ord_max nat_cmp a b ≡ max a b
picked a b = go (ltb b a) refl
  where
    go : (t : Bool) → ltb b a ≡ t → ord_max nat_cmp a b ≡ max a b
    go true e = rw e (omega (arith, ltb-true b a e))
    go false e = rw e (same (b == a))
      where
        same : (t : Bool) → cond (is_lt (cond t Equal Greater)) a b ≡ max a b
        same true = omega (arith, ltb-false b a e)
        same false = omega (arith, ltb-false b a e)
