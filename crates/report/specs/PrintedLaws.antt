-- Laws of printed numbers and lines.
use Rattle.std.specs.Prelude.{ℕ, zero, suc, ◌+◌, ◌*◌, ◌/◌, ◌%◌, ◌^◌, ◌≤◌, ◌<◌, ◌≡◌, length, ltb}
use Rattle.std.proofs.Common.{pow-suc, arith, length-append, lt-ltb, le-ltb, ltb-false}
use mathlib.Core.List.{List, [], ◌∷◌, ◌++◌}
use Rattle.layout.specs.RefusalLaws.{by_test}
use Rattle.layout.specs.declared.Interval.{Interval}
use Rattle.runs.specs.Lists.{Ordered, none, one}
use Rattle.image.specs.Ascii.{ascii}
use Rattle.report.specs.Printed.{spelled, decimals, free_line, free_lines}

-- A number of at most j + 1 decimals that is not below 10 has one decimal less before its last.
pub places_left : (j n : ℕ) → n < 10 ^ suc j → 10 ≤ n → (1 ≤ j) × (n / 10 < 10 ^ j)
places_left zero n h l = absurd (omega arith)
places_left (suc j) n h l = (omega arith, omega (arith, pow-suc 10 (suc j)))

-- A place more than enough changes nothing.
pub spare_place : (f n : ℕ) → n < 10 ^ suc f → spelled (suc (suc f)) n ≡ spelled (suc f) n
unfolding spelled
spare_place zero n h = rw (lt-ltb n 10 h)
spare_place (suc f) n h = rw (spare_place f (n / 10) (omega (arith, pow-suc 10 (suc f))))

-- A number below 10 is its last decimal.
pub decimals_last : (n : ℕ) → n < 10 → (48 + n % 10) ∷ [] ≡ decimals n
unfolding spelled
decimals_last n l = rw (lt-ltb n 10 l)

-- Any other has the decimals of its tenth before that one.
pub decimals_more : (n : ℕ) → 10 ≤ n → n < 2 ^ 64 → decimals (n / 10) ++ (48 + n % 10) ∷ [] ≡ decimals n
unfolding spelled
decimals_more n l h = rw (le-ltb n 10 l, spare_place 18 (n / 10) (omega arith))

-- A number is spelled in no more places than it is given.
decimals_places : (f n : ℕ) → length (spelled f n) ≤ f
unfolding spelled
decimals_places zero n = omega arith
decimals_places (suc f) n =
    by_test (λ (l : List ℕ). length (l ++ (48 + n % 10) ∷ []) ≤ suc f) (ltb n 10)
    (λ _. omega arith)
    (λ _. simp length-append (omega (arith, decimals_places f (n / 10))))

-- Decimals are at most 20.
pub decimals_short : (n : ℕ) → length (decimals n) ≤ 20
decimals_short n = decimals_places 20 n

-- A number below a power of 10 has no more decimals than the power.
decimals_below : (f k n : ℕ) → n < 10 ^ suc k → length (spelled f n) ≤ suc k
unfolding spelled
decimals_below zero k n h = omega arith
decimals_below (suc f) zero n h = rw (lt-ltb n 10 h) (omega arith)
decimals_below (suc f) (suc k) n h =
    by_test (λ (l : List ℕ). length (l ++ (48 + n % 10) ∷ []) ≤ suc (suc k)) (ltb n 10)
    (λ _. omega arith)
    (λ more. simp length-append (omega (arith, decimals_below f k (n / 10) (places_left (suc k) n h (ltb-false n 10 more)).1)))

-- The line of an interval whose numbers are below 10,000 has at most 15 bytes.
free_short : (i : Interval) → i.start < 10000 → i.size < 10000 → length (free_line i) ≤ 15
unfolding ascii
free_short i a b = simp length-append (omega (arith, decimals_below 20 3 i.start a, decimals_below 20 3 i.size b))

-- So has each line of intervals that are in order and end below 10,000.
pub frees_short : {k g e lo : ℕ} {l : List Interval} → e < 10000 → Ordered k g e lo l → length (free_lines l) ≤ 15 * length l
unfolding free_lines
frees_short small none = omega arith
frees_short small (one {i = i} {l = l} a b c o) = omega (arith, length-append (free_line i) (free_lines l), free_short i (omega arith) (omega arith), frees_short small o)
