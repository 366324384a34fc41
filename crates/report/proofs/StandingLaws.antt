-- Laws of decimals laid from the end of a buffer, and of a right text's counts, which the code's answers cite no more: the code writes from the front, and a type has the counts. They stand, of the same definitions.
use Rattle.std.specs.Prelude.{ℕ, suc, ◌+◌, ◌/◌, ◌%◌, ◌≤◌, ◌<◌, ◌≡◌, length, set, drop, Result, Ok}
use Rattle.std.proofs.Math.Path.{sym}
use Rattle.std.proofs.Common.{◌∙◌, arith, drop-cons, drop-set-lt, get_or-set_same, lt-length-set, lt-ltb, le-ltb}
use mathlib.Core.List.{List, [], ◌∷◌, ◌++◌, append_assoc}
use Rattle.image.specs.Image.{max_heap, max_image_roots}
use Rattle.image.specs.declared.so_far.SoFar.{SoFar}
use Rattle.image.specs.declared.reading.WrongText.{WrongText}
use Rattle.report.specs.Printed.{spelled, decimals}

-- A byte stored in front of what is laid stands in front of it.
laid : (space : List ℕ) (j b : ℕ) → j < length space → drop j (set space j b) ≡ b ∷ drop (suc j) space
laid space j b h = drop-cons (set space j b) j 0 (lt-length-set space j b h) ∙ rw (get_or-set_same space j b 0 h, drop-set-lt (suc j) space j b (omega arith))

-- A number's decimals are those of a rest and those laid from j + 1 on; the rest's last one is stored before these.
module _ (n rest j : ℕ) (space : List ℕ) (inside : j < length space) (e : decimals n ≡ spelled (suc j) rest ++ drop (suc j) space) where
  -- A rest below 10 has no other.
  pub spells_last : rest < 10 → drop j (set space j (48 + rest % 10)) ≡ decimals n
  unfolding spelled
  spells_last l = laid space j (48 + rest % 10) inside ∙ sym (rw (lt-ltb rest 10 l) at e)

  -- Any other leaves the decimals of its tenth.
  pub spells_next : 10 ≤ rest → decimals n ≡ spelled j (rest / 10) ++ drop j (set space j (48 + rest % 10))
  unfolding spelled
  spells_next l = rw (laid space j (48 + rest % 10) inside) ((rw (le-ltb rest 10 l) at e) ∙ append_assoc (spelled j (rest / 10)) _ _)

-- What a right text has come to fits in the room of the largest image.
pub found_small : {found : Result SoFar WrongText} {b : SoFar} → found ≡ Ok b → (b.roots ≤ max_image_roots) × (b.words ≤ max_heap)
found_small {found} {b} e = (b.roots_in, b.words_in)
