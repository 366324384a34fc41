-- The lines of a text.
use Rattle.std.specs.Prelude.{ℕ, cond, ◌&&◌, List, [], ◌∷◌, length, take, leb, ltb, eqb}
use Rattle.image.specs.Bytes.{index_of}
use Rattle.layout.specs.Refusal.{unless}

-- The most bytes of a line, without the LF that ends it.
abbrev pub max_line : ℕ
max_line = 32

-- The line at the front of a text, without its LF; nothing, which is no right line, where no LF ends it in time.
unfoldable pub first_line : List ℕ → List ℕ
first_line text =
    let n : ℕ = index_of 10 text in
    unless (ltb n (length text) && leb n max_line) [] (take n text)

-- Lines with one byte more before the first of them.
abbrev pub before : ℕ → List (List ℕ) → List (List ℕ)
before b [] = (b ∷ []) ∷ []
before b (line ∷ rest) = (b ∷ line) ∷ rest

-- The lines of a text, each with the LF that ends it; what stands behind the last LF is a line without one.
unfoldable pub lines_of : List ℕ → List (List ℕ)
lines_of [] = []
lines_of (b ∷ text) = cond (eqb b 10) ((b ∷ []) ∷ lines_of text) (before b (lines_of text))
