-- Laws of tests and of sums over what passes them.
use Prim.Native.Nat.{ℕ, zero, suc, ◌+◌, ◌≤◌, ◌<◌}
use Rattle.std.specs.Prelude.{◌≡◌, ◌≢◌, Bool, true, false}
use Rattle.std.proofs.Math.Path.{refl}
use Rattle.std.proofs.Common.{sym, ◌∙◌, arith}
use Rattle.std.proofs.Math.Bool.{cond}
use Rattle.std.proofs.Math.Decide.{ℕ_discrete}
use Rattle.demands.specs.Demand2.{Tells, total}

-- Two tests that tell the same agree.
pub tells_same : {p q : ℕ → Bool} {P : ℕ → Type 0} → Tells p P → Tells q P → (a : ℕ) → p a ≡ q a
tells_same {p} {q} tp tq a = go (p a) (q a) refl refl
  where
    go : (x y : Bool) → p a ≡ x → q a ≡ y → p a ≡ q a
    go true y e f = e ∙ sym ((tq a).1 ((tp a).0 e))
    go false true e f = (tp a).1 ((tq a).0 f) ∙ sym f
    go false false e f = e ∙ sym f

module _ (f : ℕ → ℕ) where
  -- Tests that agree give one sum.
  pub total_same : {p q : ℕ → Bool} → ((a : ℕ) → p a ≡ q a) → (n : ℕ) → total p f n ≡ total q f n
  unfolding total
  total_same same zero = refl
  total_same same (suc n) = rw (same n, total_same same n)

  -- The sum over nothing is 0.
  pub total_none : {p : ℕ → Bool} → ((a : ℕ) → p a ≡ false) → (n : ℕ) → total p f n ≡ 0
  unfolding total
  total_none none zero = refl
  total_none none (suc n) = rw (none n, total_none none n)

  -- The second test passes r as well, and else what the first one passes.
  module _ {p q : ℕ → Bool} {r : ℕ} (was : p r ≡ false) (is : q r ≡ true) (same : (a : ℕ) → a ≢ r → q a ≡ p a) where
    -- Below r the sums are the same.
    total_below : (n : ℕ) → n ≤ r → total q f n ≡ total p f n
    unfolding total
    total_below zero l = refl
    total_below (suc n) l = rw (same n (λ e. omega arith), total_below n (omega arith))

    -- One number more adds its own part to the sum.
    pub total_more : (n : ℕ) → r < n → total q f n ≡ total p f n + f r
    unfolding total
    total_more zero l = absurd (omega arith)
    total_more (suc n) l = go (ℕ_discrete n r) (total_more n)
      where
        go : Dec (n ≡ r) → (r < n → total q f n ≡ total p f n + f r) → total q f n + cond (q n) (f n) 0 ≡ total p f n + cond (p n) (f n) 0 + f r
        go (yes e) more = rw (e, is, was, total_below r (omega arith)) (omega arith)
        go (no e) more = rw (same n e) (omega (arith, more (omega arith)))
