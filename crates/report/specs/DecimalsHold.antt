-- A decimal is read as the number that it is printed for, and nothing else is read.
use Rattle.std.specs.Prelude.{ℕ, zero, suc, ◌+◌, ◌-◌, ◌*◌, ◌/◌, ◌%◌, ◌^◌, ◌≤◌, ◌<◌, ◌≡◌, refl, ◌≢◌, Bool, true, false, not, List, [], ◌∷◌, ◌++◌, ltb, eqb, Option, Some, None}
use Rattle.std.proofs.Common.{sym, ◌∙◌, append-nil, append_assoc, pow-suc, arith, ltb-true, ltb-false, lt-ltb, le-ltb, le-leb, ne_eqb}
use Rattle.std.proofs.Math.Bool.{and-eq-true_iff}
use Rattle.std.proofs.lemmas.Bool.{eqb-false, not-true}
use Rattle.layout.specs.Refusal.{unless}
use Rattle.layout.specs.RefusalLaws.{by_test}
use Rattle.image.specs.Decimal.{is_digit, digits_on, is_plain, decimal_of}
use Rattle.image.specs.DecimalLaws.{digit_range}
use Rattle.report.specs.Printed.{spelled, decimals}
use Rattle.report.specs.PrintedLaws.{spare_place}

-- The last decimal of a number, read behind its tenth, gives the number.
last_read : (n : ℕ) (rest : List ℕ) → n < 2 ^ 32 → digits_on (n / 10) ((48 + n % 10) ∷ rest) ≡ digits_on n rest
unfolding digits_on is_digit
last_read n rest l =
    let whole : 10 * (n / 10) + (48 + n % 10 - 48) ≡ n = omega arith in
    rw (whole, le-leb 48 (48 + n % 10) (omega arith), le-leb (48 + n % 10) 57 (omega arith), lt-ltb n (2 ^ 32) l)

-- Behind a first byte that is no zero the digits tell.
first_read : (b : ℕ) (rest : List ℕ) → b ≢ 48 → decimal_of (b ∷ rest) ≡ digits_on 0 (b ∷ rest)
unfolding decimal_of is_plain
first_read b [] some = refl
first_read b (c ∷ rest) some = rw (ne_eqb b 48 some)

-- The decimals of a number other than 0 are read as it, whatever stands behind them.
spelled_read : (f n : ℕ) (rest : List ℕ) → 1 ≤ n → n < 10 ^ f → n < 2 ^ 32 → decimal_of (spelled f n ++ rest) ≡ digits_on n rest
unfolding spelled
spelled_read zero n rest some h l = absurd (omega arith)
spelled_read (suc f) n rest some h l =
    by_test (λ (s : List ℕ). decimal_of (s ++ (48 + n % 10) ∷ [] ++ rest) ≡ digits_on n rest) (ltb n 10)
    (λ e. let none : n / 10 ≡ 0 = omega (arith, ltb-true n 10 e) in first_read (48 + n % 10) rest (omega arith) ∙ (rw none at (last_read n rest l)))
    (λ e. rw append_assoc (spelled_read f (n / 10) ((48 + n % 10) ∷ rest) (omega (arith, ltb-false n 10 e)) (omega (arith, pow-suc 10 f)) (omega arith) ∙ last_read n rest l))

-- A digit is printed as itself.
digit_printed : (f b : ℕ) → 48 ≤ b → b ≤ 57 → spelled (suc f) (10 * 0 + (b - 48)) ≡ b ∷ []
unfolding spelled
digit_printed f b lo hi =
    let same : 48 + (0 + (b - 48)) % 10 ≡ b = omega arith in
    rw (lt-ltb (0 + (b - 48)) 10 (omega arith), same)

-- What is printed is read back.
pub decimals_read : (n : ℕ) → n < 2 ^ 32 → decimal_of (decimals n) ≡ Some n
unfolding decimal_of is_plain digits_on is_digit
decimals_read zero l = rw (digit_printed 19 48 (omega arith) (omega arith))
decimals_read (suc n) l = rw append-nil at (spelled_read 20 (suc n) [] (omega arith) (omega arith) l)

-- A number other than 0 is printed before a digit that is read behind it.
digit_behind : (f k b : ℕ) → 1 ≤ k → k < 10 ^ suc f → 48 ≤ b → b ≤ 57 → spelled (suc (suc f)) (10 * k + (b - 48)) ≡ spelled (suc (suc f)) k ++ b ∷ []
unfolding spelled
digit_behind f k b some h lo hi =
    let tenth : (10 * k + (b - 48)) / 10 ≡ k = omega arith in
    let last : 48 + (10 * k + (b - 48)) % 10 ≡ b = omega arith in
    rw (le-ltb (10 * k + (b - 48)) 10 (omega arith), tenth, last, spare_place f k h)

-- Where a number comes out, the test held, and the number came from what was next.
tested : (test : Bool) (next : Option ℕ) (n : ℕ) → unless test None next ≡ Some n → (test ≡ true) × (next ≡ Some n)
tested true next n e = (refl, e)
tested false next n e = let z : ◌≡◌ {A = ℕ} 0 1 = cc in absurd (omega arith)

-- A byte that was read is a digit that keeps the number below 2 ^ 32.
digit_read : (k b : ℕ) (rest : List ℕ) (n : ℕ) → digits_on k (b ∷ rest) ≡ Some n → (48 ≤ b) × (b ≤ 57) × (10 * k + (b - 48) < 2 ^ 32) × (digits_on (10 * k + (b - 48)) rest ≡ Some n)
unfolding digits_on
digit_read k b rest n e =
    let held = tested _ _ n e in
    let tests = (and-eq-true_iff (is_digit b) _).0 held.0 in
    let range = digit_range b tests.0 in
    (range.0, range.1, ltb-true _ _ tests.1, held.1)

-- Digits read behind a number other than 0 are printed behind it.
digits_only : (part : List ℕ) (k n : ℕ) → 1 ≤ k → digits_on k part ≡ Some n → decimals n ≡ decimals k ++ part
unfolding digits_on
digits_only [] k n some e = rw append-nil (cc)
digits_only (b ∷ rest) k n some e =
    let r = digit_read k b rest n e in
    digits_only rest (10 * k + (b - 48)) n (omega arith) r.3 ∙ rw (digit_behind 18 k b some (omega arith) r.0 r.1) (append_assoc (decimals k) (b ∷ []) rest)

-- Nothing else is read: a part that is a decimal is the one that is printed for its number.
pub decimals_only : (part : List ℕ) (n : ℕ) → decimal_of part ≡ Some n → part ≡ decimals n
unfolding decimal_of is_plain digits_on
decimals_only [] n e = absurd (let z : ◌≡◌ {A = ℕ} 0 1 = cc in omega arith)
decimals_only (b ∷ []) n e = let r = digit_read 0 b [] n e in cc (digit_printed 19 b r.0 r.1)
decimals_only (b ∷ c ∷ rest) n e =
    let first = tested (not (eqb b 48)) _ n e in
    let r = digit_read 0 b (c ∷ rest) n first.1 in
    sym (rw (digit_printed 19 b r.0 r.1) at (digits_only (c ∷ rest) (10 * 0 + (b - 48)) n (omega (arith, eqb-false b 48 (not-true _ first.0))) r.3))
