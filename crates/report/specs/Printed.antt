-- Numbers and lines as the program prints them.
use Rattle.std.specs.Prelude.{ℕ, zero, suc, ◌+◌, ◌/◌, ◌%◌, cond, List, [], ◌∷◌, ◌++◌, ltb}
use Rattle.layout.specs.declared.Interval.{Interval}
use Rattle.image.specs.Ascii.{ascii}

-- The decimals of a number that has at most f of them, without a leading zero.
unfoldable pub spelled : ℕ → ℕ → List ℕ
spelled zero n = []
spelled (suc f) n = cond (ltb n 10) [] (spelled f (n / 10)) ++ (48 + n % 10) ∷ []

-- The decimals of a number; 20 are enough for 64 bits.
abbrev pub decimals : ℕ → List ℕ
decimals n = spelled 20 n

-- A line that gives a number its name; the name has the equals sign at its end.
abbrev pub said : List ℕ → ℕ → List ℕ
said name n = name ++ decimals n ++ ascii "\n"

-- The line of a listed interval.
abbrev pub free_line : Interval → List ℕ
free_line i = ascii "free=" ++ decimals i.start ++ ascii "," ++ decimals i.size ++ ascii "\n"

-- One line for each interval, in list order.
unfoldable pub free_lines : List Interval → List ℕ
free_lines [] = []
free_lines (i ∷ rest) = free_line i ++ free_lines rest
