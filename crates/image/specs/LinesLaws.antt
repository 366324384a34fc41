-- Laws of the lines of a text.
use Rattle.std.specs.Prelude.{ℕ, zero, suc, ◌+◌, ◌-◌, ◌≤◌, ◌<◌, min, ◌≡◌, refl, ◌≢◌, Bool, true, false, cond, ◌&&◌, List, [], ◌∷◌, length, take, drop, leb, ltb, eqb, Option, Some, None}
use Rattle.std.specs.Option.{unwrap_or}
use Rattle.std.specs.List.{position}
use Rattle.std.proofs.Common.{sym, ◌∙◌, ap, arith, length-drop, take_all, take-take, length-take-le, ltb-true, lt-ltb, le-ltb, le-leb}
use Rattle.std.proofs.Math.Bool.{and-false, and-eq-true_iff}
use Rattle.std.proofs.Math.Decide.{dec_le}
use Rattle.std.proofs.lemmas.Bool.{lt-leb}
use Rattle.image.specs.Bytes.{index_after, index_of}
use Rattle.image.specs.BytesLaws.{place_found, place_missing}
use Rattle.layout.specs.RefusalLaws.{by_test}
use Rattle.image.specs.Lines.{max_line, first_line, before, lines_of}

-- The first b in the front of a list is where it is in the list, or at the front's end.
index_take : (b k : ℕ) (xs : List ℕ) → index_of b (take k xs) ≡ min k (index_of b xs)
unfolding index_after index_of
index_take b zero xs = omega arith
index_take b (suc k) [] = omega arith
index_take b (suc k) (x ∷ xs) = go (eqb x b) (index_take b k xs)
  where
    go : (here : Bool) → index_of b (take k xs) ≡ min k (index_of b xs) → index_after here (index_of b (take k xs)) ≡ min (suc k) (index_after here (index_of b xs))
    go true e = omega arith
    go false e = omega arith

-- A line that an LF ends in time ends there.
line_ended : (text : List ℕ) → index_of 10 text < length text → index_of 10 text ≤ max_line → first_line text ≡ take (index_of 10 text) text
unfolding first_line
line_ended text inside short = rw (lt-ltb (index_of 10 text) (length text) inside, le-leb (index_of 10 text) max_line short)

-- No line is at the front of a text where no LF ends it in time.
pub line_missing : (text : List ℕ) → (index_of 10 text < length text → max_line < index_of 10 text) → first_line text ≡ []
unfolding first_line
line_missing text late =
    elim (dec_le (length text) (index_of 10 text)) [
      | yes h ↦ rw (le-ltb (index_of 10 text) (length text) h)
      | no h ↦ rw (lt-leb (index_of 10 text) max_line (late (omega arith))) (simp and-false)
    ]

-- A property holds of the line at the front where it holds of nothing, and of the front up to the first LF.
line_either : (P : List ℕ → Type 0) (text : List ℕ) → (index_of 10 text < length text → P (take (index_of 10 text) text)) → P [] → P (first_line text)
unfolding first_line
line_either P text p q = by_test P (ltb (index_of 10 text) (length text) && leb (index_of 10 text) max_line) (λ e. p (ltb-true _ _ ((and-eq-true_iff _ _).0 e).0)) (λ e. q)

-- Where a line is at the front of a text, it goes up to the first LF.
pub line_length : (text : List ℕ) → first_line text ≢ [] → length (first_line text) ≡ index_of 10 text
line_length text = line_either (λ line. line ≢ [] → length line ≡ index_of 10 text) text (λ inside some. length-take-le _ text (omega arith)) (λ some. absurd (some refl))

-- It is no longer than the text.
pub line_short : (text : List ℕ) → length (first_line text) ≤ length text
line_short text = line_either (λ line. length line ≤ length text) text (λ inside. omega (arith, length-take-le (index_of 10 text) text (omega arith))) (omega arith)

-- That LF is in the text.
pub line_inside : (text : List ℕ) → first_line text ≢ [] → index_of 10 text < length text
line_inside text = line_either (λ line. line ≢ [] → index_of 10 text < length text) text (λ inside some. inside) (λ some. absurd (some refl))

-- A part that goes on to the end is all that is left.
pub part_behind : (l : List ℕ) (a : ℕ) → take (length l - a) (drop a l) ≡ drop a l
part_behind l a = take_all (length l - a) (drop a l) (omega (arith, length-drop a l))

-- The line at the front of a text is as much of it as it is long.
line_front : (text : List ℕ) → take (length (first_line text)) text ≡ first_line text
line_front text = line_either (λ line. take (length line) text ≡ line) text (λ inside. rw (length-take-le (index_of 10 text) text (omega arith))) refl

-- The same at a place of a text, of the rest as the code cuts it.
pub line_part : (text : List ℕ) (at : ℕ) {rest : List ℕ} → rest ≡ take (length text - at) (drop at text) → {n : ℕ} → n ≡ length (first_line rest) → take n rest ≡ first_line (drop at text)
line_part text at left e = rw (e, left, part_behind text at) (line_front (drop at text))

-- The front of a text up to its first LF has the text's first line.
pub line_alone : (text : List ℕ) → first_line (take (suc (index_of 10 text)) text) ≡ first_line text
unfolding first_line
line_alone text =
    elim (dec_le (length text) k) [
      | yes h ↦ rw (take_all (suc k) text (omega arith))
      | no h ↦
          let at : index_of 10 (take (suc k) text) ≡ k = omega (arith, index_take 10 (suc k) text) in
          rw (at, length-take-le (suc k) text (omega arith), take-take k (suc k) text (omega arith), lt-ltb k (suc k) (omega arith), lt-ltb k (length text) (omega arith))
    ]
  where
    k : ℕ
    k = index_of 10 text

-- One byte more at the front is a line of its own, or belongs to the first line behind it.
byte_next : (b : ℕ) (text : List ℕ) (ends : Bool) → before b (lines_of text) ≡ (b ∷ take (suc (index_of 10 text)) text) ∷ lines_of (drop (suc (index_of 10 text)) text)
    → cond ends ((b ∷ []) ∷ lines_of text) (before b (lines_of text)) ≡ (b ∷ take (index_after ends (index_of 10 text)) text) ∷ lines_of (drop (index_after ends (index_of 10 text)) text)
unfolding index_after
byte_next b text true e = refl
byte_next b text false e = e

-- The lines of a text are its front up to the first LF, and the lines of the rest.
pub lines_next : (text : List ℕ) → 0 < length text → lines_of text ≡ take (suc (index_of 10 text)) text ∷ lines_of (drop (suc (index_of 10 text)) text)
unfolding lines_of index_of
lines_next [] some = absurd (omega arith)
lines_next (b ∷ []) some = byte_next b [] (eqb b 10) refl
lines_next (b ∷ c ∷ rest) some = byte_next b (c ∷ rest) (eqb b 10) (ap (before b) (lines_next (c ∷ rest) (omega arith)))

-- Looking for the LF up to here finds whether it comes in time.
module _ (text : List ℕ) (to : ℕ) (far : to ≡ min (length text) (suc max_line)) where
  -- None is there, and no line.
  pub end_missing : to ≤ index_of 10 (take to text) → length (first_line text) ≡ 0
  end_missing e = rw (line_missing text (λ inside. omega (arith, index_take 10 to text)))

  -- It is there, and ends the line.
  pub end_found : index_of 10 (take to text) < to → length (first_line text) ≡ index_of 10 (take to text)
  end_found h =
      let at : index_of 10 (take to text) ≡ index_of 10 text = omega (arith, index_take 10 to text) in
      rw (at, line_ended text (omega arith) (omega arith), length-take-le (index_of 10 text) text (omega arith))

  -- What is found there is the line's length, and 0 where nothing is.
  pub end_read : (found : Option ℕ) → position (λ b. eqb b 10) (take to text) ≡ found → unwrap_or found 0 ≡ length (first_line text)
  end_read (Some end) e =
      let place = place_found 10 (take to text) e in
      place.0 ∙ sym (end_found (omega (arith, place.0, place.1, length-take-le to text (omega arith))))
  end_read None e = sym (end_missing (omega (arith, place_missing 10 (take to text) e, length-take-le to text (omega arith))))
