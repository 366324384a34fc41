-- What is said of a cover: which words of the heap are covered.
use Rattle.std.specs.Prelude.{ℕ, zero, suc, ◌+◌, ◌-◌, ◌≤◌, ◌<◌, ◌≡◌, Bool, true, false, cond}

-- No word from b on, up to e, is covered.
abbrev pub Free : (ℕ → Bool) → ℕ → ℕ → Type 0
Free cov b e = (w : ℕ) → b ≤ w → w < e → cov w ≡ false

-- Every word from b on, up to e, is covered.
abbrev pub Full : (ℕ → Bool) → ℕ → ℕ → Type 0
Full cov b e = (w : ℕ) → b ≤ w → w < e → cov w ≡ true

-- Two covers agree from b on, up to e.
abbrev pub Agree : (ℕ → Bool) → (ℕ → Bool) → ℕ → ℕ → Type 0
Agree cov cov' b e = (w : ℕ) → b ≤ w → w < e → cov' w ≡ cov w

-- The second cover is the first with the s words from a on covered as well.
pub record Marks (cov cov' : ℕ → Bool) (a s : ℕ) : Type 0 where
  pub below : (w : ℕ) → w < a → cov' w ≡ cov w
  pub inside : Full cov' a (a + s)
  pub above : (w : ℕ) → a + s ≤ w → cov' w ≡ cov w

-- Where cover begins behind a free word past lo, it goes on for t words, or to e.
abbrev pub Thick : (ℕ → Bool) → ℕ → ℕ → ℕ → Type 0
Thick cov lo e t = (b : ℕ) → lo < b → cov (b - 1) ≡ false → cov b ≡ true → (w : ℕ) → b ≤ w → w < b + t → w < e → cov w ≡ true

-- How many of the n words from b on are covered.
unfoldable pub covered_in : (ℕ → Bool) → ℕ → ℕ → ℕ
covered_in cov b zero = 0
covered_in cov b (suc n) = cond (cov b) 1 0 + covered_in cov (suc b) n
