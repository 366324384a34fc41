-- Laws of right texts: the limits that their images keep.
use Rattle.std.specs.Prelude.{ℕ, ◌≤◌, ◌≡◌, not, ◌&&◌, List, [], ◌∷◌, length, leb, ltb, eqb, Option, Some, None}
use Rattle.std.proofs.Common.{subst, arith, length-append, length-set, leb-true, ltb-true, eqb-true}
use Rattle.std.proofs.Math.Bool.{and-eq-true_iff}
use Rattle.std.proofs.lemmas.List.{length-replicate}
use Rattle.layout.specs.Limits.{max_keep}
use Rattle.layout.specs.RefusalLaws.{by_test}
use Rattle.image.specs.Lines.{first_line, lines_of}
use Rattle.image.specs.Image.{max_text, max_heap, max_image_roots, Image, blank, Taken, on, off, takes_words, takes_keep, takes_root, takes_word, takes_line, Text, right, wrong, or_wrong, read_on, text_of}
use Rattle.image.specs.Limited.{Limited}
use Rattle.image.specs.ReadingLaws.{IfOn, if_tested, if_line}

-- A line keeps the limits.
module _ (image : Image) (k : Limited image) where
  -- A `words` line does.
  words_limited : (number : Option ℕ) → IfOn Limited (takes_words image number)
  words_limited (Some n) = if_tested Limited (eqb image.lines 0 && leb 1 n && leb n max_heap) _ (λ e.
      let x = (and-eq-true_iff (eqb image.lines 0 && leb 1 n) _).0 e in
      let least : 1 ≤ n = leb-true 1 n ((and-eq-true_iff (eqb image.lines 0) _).0 x.0).1 in
      let most : n ≤ max_heap = leb-true n max_heap x.1 in
      record { heap_most = rw (length-replicate {A = ℕ} n 0) most; roots_most = k.roots_most; heap_least = λ _. rw (length-replicate {A = ℕ} n 0) least; keep_least = λ l. absurd (omega (arith, l)); keep_most = λ l. absurd (omega (arith, l)) })
  words_limited None = tt

  -- So does a `keep` line.
  keep_limited : (number : Option ℕ) → IfOn Limited (takes_keep image number)
  keep_limited (Some n) = if_tested Limited (eqb image.lines 1 && leb 1 n && leb n max_keep) _ (λ e.
      let x = (and-eq-true_iff (eqb image.lines 1 && leb 1 n) _).0 e in
      let y = (and-eq-true_iff (eqb image.lines 1) _).0 x.0 in
      record { heap_most = k.heap_most; roots_most = k.roots_most; heap_least = λ _. k.heap_least (omega (arith, eqb-true image.lines 1 y.0)); keep_least = λ _. leb-true 1 n y.1; keep_most = λ _. leb-true n max_keep x.1 })
  keep_limited None = tt

  -- So does a `root` line.
  root_limited : (number : Option ℕ) → IfOn Limited (takes_root image number)
  root_limited (Some n) = if_tested Limited (leb 2 image.lines && eqb image.last 0 && ltb (length image.roots) max_image_roots) _ (λ e.
      let x = (and-eq-true_iff (leb 2 image.lines && eqb image.last 0) _).0 e in
      let two : 2 ≤ image.lines = leb-true 2 image.lines ((and-eq-true_iff (leb 2 image.lines) _).0 x.0).0 in
      record { heap_most = k.heap_most; roots_most = omega (arith, length-append image.roots (n ∷ []), ltb-true (length image.roots) max_image_roots x.1); heap_least = λ _. k.heap_least (omega (arith, two)); keep_least = λ _. k.keep_least two; keep_most = λ _. k.keep_most two })
  root_limited None = tt

  -- So does a `word` line.
  word_limited : (pair : Option (ℕ × ℕ)) → IfOn Limited (takes_word image pair)
  word_limited (Some (a, v)) = if_tested Limited (leb 2 image.lines && ltb image.last a && ltb a (length image.heap) && not (eqb v 0)) _ (λ e.
      let x = (and-eq-true_iff (leb 2 image.lines && ltb image.last a && ltb a (length image.heap)) _).0 e in
      let y = (and-eq-true_iff (leb 2 image.lines && ltb image.last a) _).0 x.0 in
      let two : 2 ≤ image.lines = leb-true 2 image.lines ((and-eq-true_iff (leb 2 image.lines) _).0 y.0).0 in
      record { heap_most = rw (length-set image.heap a v) k.heap_most; roots_most = k.roots_most; heap_least = λ _. rw (length-set image.heap a v) (k.heap_least (omega (arith, two))); keep_least = λ _. k.keep_least two; keep_most = λ _. k.keep_most two })
  word_limited None = tt

  -- So does any line.
  line_limited : (line : List ℕ) → IfOn Limited (takes_line image line)
  line_limited line = if_line Limited image line words_limited keep_limited root_limited word_limited

-- What a text is, if it is right, keeps the limits, and had its first two lines.
abbrev LimitedText : Text → Type 0
LimitedText (right image) = Limited image × (2 ≤ image.lines)
LimitedText (wrong line) = Unit {0}

-- It does so if it does so of the image that one line more makes.
limited_next : (n : ℕ) (next : Image → Text) (t : Taken) → IfOn Limited t → ((image : Image) → Limited image → LimitedText (next image)) → LimitedText (or_wrong n next t)
limited_next n next (on image) l rest = rest image l
limited_next n next off l rest = tt

-- The lines that are left keep them.
read_limited : (image : Image) → Limited image → (lines : List (List ℕ)) → LimitedText (read_on image lines)
unfolding read_on
read_limited image k [] = by_test LimitedText (leb 2 image.lines) (λ e. (k, leb-true 2 image.lines e)) (λ e. tt)
read_limited image k (line ∷ rest) = limited_next _ _ (takes_line image (first_line line)) (line_limited image k (first_line line)) (λ next l. read_limited next l rest)

-- So does any text.
text_limited : (text : List ℕ) → LimitedText (text_of text)
unfolding text_of
text_limited text =
    by_test LimitedText (leb (length text) max_text) (λ e. read_limited blank (record { heap_most = omega arith; roots_most = omega arith; heap_least = λ l. absurd (omega (arith, l)); keep_least = λ l. absurd (omega (arith, l)); keep_most = λ l. absurd (omega (arith, l)) }) (lines_of text)) (λ e. tt)

-- The image of a right text keeps them, and its two first lines were there.
pub text_right : (text : List ℕ) (image : Image) → text_of text ≡ right image → Limited image × (2 ≤ image.lines)
text_right text image e = subst LimitedText e (text_limited text)
