-- Laws of decimals and pairs.
use Prim.Native.Nat.{ℕ, suc, ◌+◌, ◌-◌, ◌*◌, ◌^◌, ◌≤◌, ◌<◌}
use Rattle.std.specs.Prelude.{◌≡◌, refl, ◌≢◌, true, false, not, List, [], ◌∷◌, length, get_or, take, drop, eqb, Option, Some, None, Result, Ok, Err, OkIff}
use Rattle.std.specs.Option.{option_zip}
use Rattle.std.specs.Result.{result_ok}
use Rattle.std.proofs.lemmas.Result.{OkIff-at_ok, OkIff-at_err}
use Rattle.std.specs.List.{position}
use Rattle.std.specs.Char.{is_ascii_digit}
use Rattle.std.proofs.Math.Bool.{and-eq-true_iff}
use Rattle.std.proofs.Math.Numerals.{add-one}
use Rattle.std.proofs.Common.{arith, drop_of_length-le, drop-cons}
use borrow.Author.Tests.{leb-true, lt-ltb, le-ltb}
use Rattle.image.specs.Bytes.{index_of}
use Rattle.image.specs.BytesLaws.{place_found, place_missing}
use Rattle.image.specs.Decimal.{is_digit, digits_on, is_plain, decimal_of, pair_of}

-- No byte is no decimal.
pub plain_none : (part : List ℕ) → length part ≡ 0 → false ≡ is_plain part
unfolding is_plain
plain_none [] e = refl
plain_none (b ∷ rest) e = absurd (omega (arith, e))

-- One byte alone is no leading zero.
pub plain_one : (part : List ℕ) → length part ≡ 1 → true ≡ is_plain part
unfolding is_plain
plain_one [] e = absurd (omega (arith, e))
plain_one (b ∷ []) e = refl
plain_one (b ∷ c ∷ rest) e = absurd (omega (arith, e))

-- With more bytes the first tells.
pub plain_more : (part : List ℕ) → length part ≢ 0 → length part ≢ 1 → not (eqb (get_or part 0 0) 48) ≡ is_plain part
unfolding is_plain
plain_more [] some more = absurd (some refl)
plain_more (b ∷ []) some more = absurd (more refl)
plain_more (b ∷ c ∷ rest) some more = refl

-- A digit is a byte from 48 to 57.
pub digit_range : (b : ℕ) → is_digit b ≡ true → (48 ≤ b) × (b ≤ 57)
unfolding is_digit
digit_range b e = let x = (and-eq-true_iff _ _).0 e in (leb-true 48 b x.0, leb-true b 57 x.1)

-- The library's test of a byte is the same.
pub digit_tested : (b : ℕ) → is_ascii_digit b ≡ is_digit b
unfolding is_digit
digit_tested b = refl

-- A number that a conversion has kept is below 2 ^ 32, and as it was.
pub number_kept : {E : Type 0} (r : Result ℕ E) (n : ℕ) {x : ℕ} → OkIff r (n < 2 ^ 32) n → result_ok r ≡ Some x → (n < 2 ^ 32) × (x ≡ n)
number_kept {E = E} (Ok y) n k e = let q = OkIff-at_ok {E = E} (Ok y) (n < 2 ^ 32) n y k refl in (q.0, cc)
number_kept (Err d) n k e = absurd (cc)

-- One that it has not kept is not.
pub number_lost : {E : Type 0} (r : Result ℕ E) (n : ℕ) → OkIff r (n < 2 ^ 32) n → result_ok r ≡ None → 2 ^ 32 ≤ n
number_lost (Ok y) n k e = absurd (cc)
number_lost {E = E} (Err d) n k e = let above = OkIff-at_err {E = E} (Err d) (n < 2 ^ 32) n d k refl in omega (arith, above)

-- One that is below 2 ^ 32 is kept.
pub number_in : {E : Type 0} (r : Result ℕ E) (n : ℕ) → OkIff r (n < 2 ^ 32) n → n < 2 ^ 32 → result_ok r ≡ Some n
number_in {E = E} (Ok y) n k l = let q = number_kept {E = E} (Ok y) n {x = y} k refl in cc
number_in {E = E} (Err d) n k l = let over = number_lost {E = E} (Err d) n k refl in absurd (omega (arith, l, over))

-- At the end the number is what was read.
pub digits_end : (part : List ℕ) (n i : ℕ) → length part ≤ i → digits_on n (drop i part) ≡ Some n
unfolding digits_on
digits_end part n i le = rw (drop_of_length-le part le)

-- The next byte of a part, b.
module _ (part : List ℕ) (n i : ℕ) (l : i < length part) where
  abbrev b : ℕ
  b = get_or part i 0

  -- One that is no digit makes all wrong.
  pub digits_stop : is_digit b ≡ false → digits_on n (drop i part) ≡ None
  unfolding digits_on
  digits_stop e = rw (drop-cons part i 0 l, e)

  -- So does a digit that takes the number to 2 ^ 32.
  pub digits_over : is_digit b ≡ true → 2 ^ 32 ≤ 10 * n + (b - 48) → digits_on n (drop i part) ≡ None
  unfolding digits_on
  digits_over e le = rw (drop-cons part i 0 l, e, le-ltb (10 * n + (b - 48)) (2 ^ 32) le)

  -- With any other the number goes on.
  pub digits_next : is_digit b ≡ true → 10 * n + (b - 48) < 2 ^ 32 → digits_on n (drop i part) ≡ digits_on (10 * n + (b - 48)) (drop (i + 1) part)
  unfolding digits_on
  digits_next e lt = rw (drop-cons part i 0 l, e, lt-ltb (10 * n + (b - 48)) (2 ^ 32) lt, add-one i)

-- A decimal that has a wrong first byte, or none, is wrong.
pub decimal_refused : (part : List ℕ) → is_plain part ≡ false → None ≡ decimal_of part
unfolding decimal_of
decimal_refused part e = rw e

-- Of any other the digits tell.
pub decimal_read : (part : List ℕ) → is_plain part ≡ true → digits_on 0 part ≡ decimal_of part
unfolding decimal_of
decimal_read part e = rw e

-- Two decimals are no pair where the second is wrong.
second_wrong : (a : Option ℕ) → None ≡ option_zip {U = ℕ} a None
second_wrong (Some n) = refl
second_wrong None = refl

-- Without a comma there is no pair.
pub pair_unparted : (part : List ℕ) → position (λ b. eqb b 44) part ≡ None → None ≡ pair_of part
unfolding pair_of decimal_of is_plain
pair_unparted part e = rw (drop_of_length-le part {i = suc (index_of 44 part)} (omega (arith, place_missing 44 part e))) (second_wrong (decimal_of (take (index_of 44 part) part)))

-- With one there are two parts.
pub pair_parted : (part : List ℕ) {c : ℕ} → position (λ b. eqb b 44) part ≡ Some c → option_zip (decimal_of (take c part)) (decimal_of (drop (c + 1) part)) ≡ pair_of part
unfolding pair_of
pair_parted part e = rw ((place_found 44 part e).0, add-one (index_of 44 part))
