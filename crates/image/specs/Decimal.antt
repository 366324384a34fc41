-- Decimals and pairs, as parts of a line.
use Rattle.std.specs.Prelude.{ℕ, suc, ◌+◌, ◌-◌, ◌*◌, ◌^◌, Bool, true, false, not, ◌&&◌, List, [], ◌∷◌, take, drop, leb, ltb, eqb, Option, Some, None}
use Rattle.std.specs.Option.{option_zip}
use Rattle.image.specs.Bytes.{index_of}
use Rattle.layout.specs.Refusal.{unless}

-- A byte is a digit.
unfoldable pub is_digit : ℕ → Bool
is_digit b = leb 48 b && leb b 57

-- The number n with these digits behind it, where all are digits and it stays below 2 ^ 32.
unfoldable pub digits_on : ℕ → List ℕ → Option ℕ
digits_on n [] = Some n
digits_on n (b ∷ rest) =
    let m : ℕ = 10 * n + (b - 48) in
    unless (is_digit b && ltb m (2 ^ 32)) None (digits_on m rest)

-- There is a byte, and the first is no leading zero.
unfoldable pub is_plain : List ℕ → Bool
is_plain [] = false
is_plain (b ∷ []) = true
is_plain (b ∷ c ∷ rest) = not (eqb b 48)

-- A decimal: digits alone, without a leading zero, below 2 ^ 32.
unfoldable pub decimal_of : List ℕ → Option ℕ
decimal_of part = unless (is_plain part) None (digits_on 0 part)

-- A pair: a decimal before the first comma, and a decimal behind it, where both are right.
unfoldable pub pair_of : List ℕ → Option (ℕ × ℕ)
pair_of part =
    let c : ℕ = index_of 44 part in
    option_zip (decimal_of (take c part)) (decimal_of (drop (suc c) part))
