-- Laws of the numbers and words that stand for an image: what a line of each kind makes of them.
use Rattle.std.specs.Prelude.{ℕ, ◌+◌, ◌≤◌, ◌<◌, ◌≡◌, Bool, true, false, not, ◌&&◌, List, [], ◌∷◌, ◌++◌, get_or, set, take, drop, leb, ltb, eqb, Option, Some}
use Rattle.std.proofs.Common.{sym, ◌∙◌, ap, add-one, arith, length-set, take-suc, get_or-set_same, leb-true, ltb-true, eqb-true}
use Rattle.std.proofs.Math.Bool.{and-eq-true_iff}
use Rattle.std.proofs.Math.ListN.{length, replicate, length-replicate}
use Rattle.std.proofs.Math.Seq.{take_at, length-take-le, take-set-lt}
use Rattle.std.proofs.lemmas.List.{take-set-le}
use Rattle.layout.specs.Limits.{max_keep}
use Rattle.image.specs.Image.{max_heap, max_image_roots, on, off, on_if, takes_words, takes_keep, takes_root, takes_word}
use Rattle.image.specs.SoFar.{shows}
use Rattle.image.specs.declared.so_far.SoFar.{SoFar}

-- A store behind a front makes it one longer.
front_more : (l : List ℕ) (n v : ℕ) → n < length l → take n l ++ v ∷ [] ≡ take (n + 1) (set l n v)
front_more l n v lt =
    let more : take (n + 1) (set l n v) ≡ take n (set l n v) ++ get_or (set l n v) n 0 ∷ [] = (rw (add-one n) (take-suc (set l n v) n 0 (omega (arith, length-set l n v)))) in
    sym (rw (more, get_or-set_same l n v 0 lt, take-set-le n l n v (omega arith)))

-- A `words` line with a number.
module _ (b : SoFar) {number : Option ℕ} {n : ℕ} (given : number ≡ Some n) where
  -- The line may stand here, and the number is in its limits.
  abbrev words_test : Bool
  words_test = eqb b.lines 0 && leb 1 n && leb n max_heap

  -- Where it holds the heap has room.
  pub words_fit : words_test ≡ true → n ≤ max_heap
  words_fit e = leb-true n max_heap ((and-eq-true_iff (eqb b.lines 0 && leb 1 n) _).0 e).1

  module _ (roots heap : List ℕ) where
    -- Where it fails the line is wrong.
    pub words_off : words_test ≡ false → off ≡ takes_words (shows b roots heap) number
    unfolding on_if
    words_off e = rw (given, e)

    -- Else the front of the heap is cleared.
    pub words_on : words_test ≡ true → {zeros : List ℕ} → n ≤ length heap → zeros ≡ replicate (length (take n heap)) 0
        → on (record { lines = 1; last = b.last; keep = b.keep; roots = take b.roots roots; heap = take n (zeros ++ drop n heap) }) ≡ takes_words (shows b roots heap) number
    unfolding on_if
    words_on e {zeros} le z =
        let copies : zeros ≡ replicate n 0 = rw (length-take-le n heap le) at z in
        rw (given, e, take_at zeros (drop n heap) n (ap length copies ∙ length-replicate n 0), copies)

-- A `keep` line with a number.
module _ (b : SoFar) {number : Option ℕ} {n : ℕ} (given : number ≡ Some n) (roots heap : List ℕ) where
  -- The line may stand here, and the number is in its limits.
  abbrev keep_test : Bool
  keep_test = eqb b.lines 1 && leb 1 n && leb n max_keep

  -- Where it fails the line is wrong.
  pub keep_off : keep_test ≡ false → off ≡ takes_keep (shows b roots heap) number
  unfolding on_if
  keep_off e = rw (given, e)

  -- Else the number is the keep length.
  pub keep_on : keep_test ≡ true → on (record { lines = 2; last = b.last; keep = n; roots = take b.roots roots; heap = take b.words heap }) ≡ takes_keep (shows b roots heap) number
  unfolding on_if
  keep_on e = rw (given, e)

-- A `root` line with a number.
module _ (b : SoFar) {number : Option ℕ} {n : ℕ} (given : number ≡ Some n) where
  -- The line may stand here, and there is room for a root.
  abbrev root_test : Bool
  root_test = leb 2 b.lines && eqb b.last 0 && ltb b.roots max_image_roots

  -- Where it holds there is room for the root.
  pub root_fit : root_test ≡ true → b.roots < max_image_roots
  root_fit e = ltb-true b.roots max_image_roots ((and-eq-true_iff (leb 2 b.lines && eqb b.last 0) _).0 e).1

  -- No `word` line came before.
  no_last : root_test ≡ true → b.last ≡ 0
  no_last e = eqb-true b.last 0 ((and-eq-true_iff (leb 2 b.lines) (eqb b.last 0)).0 ((and-eq-true_iff (leb 2 b.lines && eqb b.last 0) _).0 e).0).1

  module _ (roots heap : List ℕ) (le : b.roots ≤ length roots) where
    -- Where it fails the line is wrong.
    pub root_off : root_test ≡ false → off ≡ takes_root (shows b roots heap) number
    unfolding on_if
    root_off e = rw (given, length-take-le b.roots roots le, e)

    -- Else the root is the last one.
    pub root_on : root_test ≡ true → b.roots < length roots
        → on (record { lines = b.lines + 1; last = b.last; keep = b.keep; roots = take (b.roots + 1) (set roots b.roots n); heap = take b.words heap }) ≡ takes_root (shows b roots heap) number
    unfolding on_if
    root_on e lt = rw (given, length-take-le b.roots roots le, e, front_more roots b.roots n lt, no_last e)

-- A `word` line with a pair.
module _ (b : SoFar) {pair : Option (ℕ × ℕ)} {a v : ℕ} (given : pair ≡ Some (a, v)) where
  -- The line may stand here, the address is the next, and the value is not 0.
  abbrev word_test : Bool
  word_test = leb 2 b.lines && ltb b.last a && ltb a b.words && not (eqb v 0)

  -- Where it holds the address is in the heap.
  pub word_fit : word_test ≡ true → a < b.words
  word_fit e = ltb-true a b.words ((and-eq-true_iff (leb 2 b.lines && ltb b.last a) _).0 ((and-eq-true_iff (leb 2 b.lines && ltb b.last a && ltb a b.words) _).0 e).0).1

  module _ (roots heap : List ℕ) (le : b.words ≤ length heap) where
    -- Where it fails the line is wrong.
    pub word_off : word_test ≡ false → off ≡ takes_word (shows b roots heap) pair
    unfolding on_if
    word_off e = rw (given, length-take-le b.words heap le, e)

    -- Else the value is stored.
    pub word_on : word_test ≡ true
        → on (record { lines = b.lines + 1; last = a; keep = b.keep; roots = take b.roots roots; heap = take b.words (set heap a v) }) ≡ takes_word (shows b roots heap) pair
    unfolding on_if
    word_on e = rw (given, length-take-le b.words heap le, e, take-set-lt b.words heap a v (word_fit e))
