-- The map: one bit for each word of the heap, set where an object starts.
use Rattle.std.specs.Prelude.{ℕ, zero, suc, ◌+◌, ◌/◌, ◌%◌, ◌^◌, Bool, false, cond, ◌&&◌, ◌||◌, List, length, get_or, set, ltb, eqb}
use Rattle.words.specs.Header.{size_at}

-- Bit a of the map: bit (a mod 32) of map word (a div 32).
unfoldable pub bit_at : List ℕ → ℕ → Bool
bit_at map a = eqb (get_or map (a / 32) 0 / 2 ^ (a % 32) % 2) 1

-- The map with bit a set.
unfoldable pub set_bit : List ℕ → ℕ → List ℕ
set_bit map a = cond (bit_at map a) map (set map (a / 32) (get_or map (a / 32) 0 + 2 ^ (a % 32)))

-- An object starts at a on the map of an h-word heap: a is an address in 1..h-1 whose bit is set.
unfoldable pub is_start : ℕ → List ℕ → ℕ → Bool
is_start h map a = ltb 0 a && ltb a h && bit_at map a

-- Some number below n passes the test.
unfoldable pub some_below : ℕ → (ℕ → Bool) → Bool
some_below zero test = false
some_below (suc n) test = test n || some_below n test

-- Word w lies in an object that starts on the map.
unfoldable pub covered : List ℕ → List ℕ → ℕ → Bool
covered heap map w = some_below (suc w) (λ a. is_start (length heap) map a && ltb w (a + size_at heap a))
