-- Laws of the map: every bit after one is set, and the bits of zeros.
use Rattle.std.specs.Prelude.{ℕ, suc, zero, ◌+◌, ◌-◌, ◌*◌, ◌/◌, ◌%◌, ◌^◌, ◌<◌, max, ◌≡◌, refl, ◌≢◌, Bool, true, false, cond, List, length, get_or, set, take, replicate}
use Rattle.std.proofs.Common.{sym, ◌∙◌, ap, arith, mod-lt, one-mul, length-set, get_or-set_same, get_or-set_other, get_or-take, pow-add, shl_exact, lit<}
use Rattle.std.proofs.Math.Bool.{and-eq-true_iff}
use Rattle.std.proofs.Math.Nat.{zero-div, div-eq_of_lt, pow-succ'}
use Rattle.std.proofs.Math.Decide.{dec_lt, ℕ_discrete}
use Rattle.std.proofs.lemmas.List.{set-get_or}
use Rattle.std.proofs.Math.Seq.{set_out}
use Rattle.std.proofs.Math.Pow.{pow-lt}
use Rattle.std.proofs.lemmas.Nat.{shl-shr, or_shr}
use Rattle.std.specs.Int.Bits.{bit_or, bit_and, or_add_and, or_step}
use Rattle.std.proofs.lemmas.Nat.Bits.{and_high}
use borrow.Author.Tests.{eqb-true, eqb-false, eq-eqb, ltb-true, lt-ltb}
use Rattle.words.specs.Map.{bit_at, set_bit, is_start}

-- Every word of zeros is 0.
zeros_at : (n i : ℕ) → ◌≡◌ {A = ℕ} (get_or (replicate n 0) i 0) 0
zeros_at zero i = refl
zeros_at (suc n) zero = refl
zeros_at (suc n) (suc i) = zeros_at n i

-- Bit k of x, in its place.
and_pow : (x k : ℕ) → bit_and x (2 ^ k) ≡ x / 2 ^ k % 2 * 2 ^ k
and_pow x k =
    let e : 2 ^ (1 + k) - 2 ^ k ≡ 2 ^ k = omega (arith, pow-add 2 1 k) in
    ap (bit_and x) (sym e) ∙ and_high x 1 k

-- A bit that is set is not added again.
or_pow : (x k : ℕ) → bit_or x (2 ^ k) + x / 2 ^ k % 2 * 2 ^ k ≡ x + 2 ^ k
or_pow x k = rw (← and_pow x k) (or_add_and x (2 ^ k))

-- To set a bit is to store the word with the bit's power of two joined to it.
set_bit_or : (map : List ℕ) (a : ℕ) → set_bit map a ≡ set map (a / 32) (bit_or (get_or map (a / 32) 0) (2 ^ (a % 32)))
unfolding set_bit bit_at
set_bit_or map a = go (bit_at map a) refl
  where
    x : ℕ
    x = get_or map (a / 32) 0

    k : ℕ
    k = a % 32

    go : (b : Bool) → bit_at map a ≡ b → cond b map (set map (a / 32) (x + 2 ^ k)) ≡ set map (a / 32) (bit_or x (2 ^ k))
    go true e =
        let one : x / 2 ^ k % 2 ≡ 1 = eqb-true (x / 2 ^ k % 2) 1 e in
        let same : bit_or x (2 ^ k) ≡ x = omega (arith, rw one at (or_pow x k)) in
        sym (rw same (set-get_or map (a / 32) 0))
    go false e =
        let none : x / 2 ^ k % 2 ≡ 0 = omega (arith, eqb-false (x / 2 ^ k % 2) 1 e) in
        let more : bit_or x (2 ^ k) ≡ x + 2 ^ k = omega (arith, rw none at (or_pow x k)) in
        rw more

-- A bit of two joined words is the greater of their bits.
or_bit : (x y j : ℕ) → bit_or x y / 2 ^ j % 2 ≡ max (x / 2 ^ j % 2) (y / 2 ^ j % 2)
or_bit x y j = rw (or_shr x y j, or_step (x / 2 ^ j) (y / 2 ^ j)) (omega arith)

-- A power of two has its own bit.
pow_same : (k : ℕ) → 2 ^ k / 2 ^ k % 2 ≡ 1
pow_same k = let e : 2 ^ k / 2 ^ k ≡ 1 = ap (λ (n : ℕ). n / 2 ^ k) (sym (one-mul (2 ^ k))) ∙ shl-shr 1 k in rw e

-- A power of two has no other bit.
pow_other : (k j : ℕ) → j ≢ k → 2 ^ k / 2 ^ j % 2 ≡ 0
pow_other k j ne = go (dec_lt j k)
  where
    go : Dec (j < k) → 2 ^ k / 2 ^ j % 2 ≡ 0
    go (yes l) =
        let d : ℕ = k - suc j in
        let e : 2 ^ k ≡ 2 * 2 ^ d * 2 ^ j = ap (λ (n : ℕ). 2 ^ n) (omega arith) ∙ pow-add 2 (suc d) j ∙ ap (λ (n : ℕ). n * 2 ^ j) (pow-succ' 2 d) in
        let q : 2 ^ k / 2 ^ j ≡ 2 * 2 ^ d = ap (λ (n : ℕ). n / 2 ^ j) e ∙ shl-shr (2 * 2 ^ d) j in
        omega (arith, q)
    go (no n) = let e : 2 ^ k / 2 ^ j ≡ 0 = div-eq_of_lt (pow-lt (omega arith)) in rw e

-- The bit that was set is set.
pub bit_same : (map : List ℕ) (a : ℕ) → a / 32 < length map → bit_at (set_bit map a) a ≡ true
unfolding bit_at
bit_same map a inside =
    let x : ℕ = get_or map (a / 32) 0 in
    let k : ℕ = a % 32 in
    rw (set_bit_or map a, get_or-set_same map (a / 32) (bit_or x (2 ^ k)) 0 inside, or_bit x (2 ^ k) k, pow_same k)
    (eq-eqb (max (x / 2 ^ k % 2) 1) 1 (omega arith))

-- Every other bit is as it was.
pub bit_other : (map : List ℕ) (a b : ℕ) → b ≢ a → bit_at (set_bit map a) b ≡ bit_at map b
unfolding bit_at
bit_other map a b ne = rw (set_bit_or map a) (go (ℕ_discrete (b / 32) (a / 32)) (dec_lt (a / 32) (length map)))
  where
    x : ℕ
    x = get_or map (a / 32) 0

    y : ℕ
    y = bit_or x (2 ^ (a % 32))

    go : Dec (b / 32 ≡ a / 32) → Dec (a / 32 < length map) → bit_at (set map (a / 32) y) b ≡ bit_at map b
    go (no apart) d = rw (get_or-set_other map (a / 32) (b / 32) y 0 apart)
    go (yes same) (no out) = rw (set_out map (a / 32) y (omega arith))
    go (yes same) (yes inside) =
        let e : max (x / 2 ^ (b % 32) % 2) 0 ≡ x / 2 ^ (b % 32) % 2 = omega arith in
        rw (same, get_or-set_same map (a / 32) y 0 inside, or_bit x (2 ^ (a % 32)) (b % 32), pow_other (a % 32) (b % 32) (omega arith), e)

-- No bit of zeros is set.
pub bit_zeros : (n a : ℕ) → bit_at (replicate n 0) a ≡ false
unfolding bit_at
bit_zeros n a = rw (zeros_at n (a / 32), zero-div)

-- A bit of the first n words of a map is that of the map.
pub bit_take : (n : ℕ) (map : List ℕ) (a : ℕ) → a / 32 < n → bit_at (take n map) a ≡ bit_at map a
unfolding bit_at
bit_take n map a inside = rw (get_or-take n map (a / 32) 0 inside)

-- Setting a bit keeps the map's length.
pub length-set_bit : (map : List ℕ) (a : ℕ) → length (set_bit map a) ≡ length map
length-set_bit map a = ap length (set_bit_or map a) ∙ simp length-set

-- Joining a shifted 1 to the word sets the bit.
pub shift_sets : (map : List ℕ) (a : ℕ) → set map (a / 32) (bit_or (get_or map (a / 32) 0) (1 * 2 ^ (a % 32) % 2 ^ 32)) ≡ set_bit map a
shift_sets map a =
    let shifted : 1 * 2 ^ (a % 32) % 2 ^ 32 ≡ 2 ^ (a % 32) =
    shl_exact {a = 1} 1 (a % 32) 32 (lit< tt) (omega (arith, mod-lt a {m = 32} (lit< tt))) ∙ one-mul (2 ^ (a % 32)) in
    rw (set_bit_or map a, shifted)

-- What a start on the map says.
pub record Start (h : ℕ) (map : List ℕ) (a : ℕ) : Type 0 where
  pub some : 0 < a
  pub inside : a < h
  pub bit : bit_at map a ≡ true

module _ (h : ℕ) (map : List ℕ) (a : ℕ) where
  -- The test says so.
  pub start : is_start h map a ≡ true → Start h map a
  unfolding is_start
  start e =
      let x = (and-eq-true_iff _ _).0 e in
      let y = (and-eq-true_iff _ _).0 x.0 in
      record { some = ltb-true 0 a y.0; inside = ltb-true a h y.1; bit = x.1 }

  -- And only then.
  pub is_start_lem : Start h map a → is_start h map a ≡ true
  unfolding is_start
  is_start_lem s = rw (lt-ltb 0 a s.some, lt-ltb a h s.inside, s.bit)
