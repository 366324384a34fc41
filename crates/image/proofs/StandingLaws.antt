-- Laws of keys, decimals, pairs and texts that the code's answers cite no more, since its loops and searches are the library's now. They stand, of the same definitions.
use Prim.Native.Nat.{ℕ, suc, ◌+◌, ◌-◌, ◌≤◌, ◌<◌}
use Rattle.std.specs.Prelude.{◌≡◌, refl, ◌≢◌, true, false, List, [], ◌∷◌, length, get_or, take, drop, eqb, Option, Some, None}
use Rattle.std.specs.Option.{option_zip}
use Rattle.std.proofs.Common.{sym, arith, add-one, drop-cons, drop_of_length-le, ◌∙◌}
use Rattle.std.proofs.Math.Nat.{sub-zero}
use Rattle.std.proofs.Math.Seq.{take-length}
use Rattle.std.proofs.Math.Bool.{and-eq-true_iff, and-false}
use Rattle.std.proofs.lemmas.Bool.{eq-eqb, ne_eqb, lt-leb}
use Rattle.image.specs.Bytes.{index_after, index_of}
use Rattle.image.specs.Decimal.{is_plain, decimal_of, pair_of}
use Rattle.image.specs.Image.{wrong, right, starts, read_on, text_of}
use Rattle.image.specs.Lines.{lines_of}
use Rattle.image.specs.ReadingLaws.{Between, ends_right, text_ends}
use Rattle.image.specs.SoFar.{shows}
use Rattle.image.specs.declared.so_far.SoFar.{SoFar}

-- A line has the bytes that it starts with.
pub starts_long : (key line : List ℕ) → starts key line ≡ true → length key ≤ length line
unfolding starts
starts_long [] line e = omega arith
starts_long (k ∷ key) [] e = absurd (cc)
starts_long (k ∷ key) (b ∷ line) e = omega (arith, starts_long key line ((and-eq-true_iff (eqb k b) _).0 e).1)

-- A shorter line does not start with them.
pub starts_short : (key line : List ℕ) → length line < length key → false ≡ starts key line
unfolding starts
starts_short [] line l = absurd (omega (arith, l))
starts_short (k ∷ key) [] l = refl
starts_short (k ∷ key) (b ∷ line) l = rw (← starts_short key line (omega (arith, l)), and-false (eqb k b))

-- Where no byte of the key is left, all were there.
pub starts_end : (key line : List ℕ) (i : ℕ) → length key ≤ i → starts (drop i key) (drop i line) ≡ true
unfolding starts
starts_end key line i le = rw (drop_of_length-le key le)

-- The next byte of key and line.
module _ (key line : List ℕ) (i : ℕ) (k : i < length key) (l : i < length line) where
  -- Another one than the key's ends the search.
  pub starts_stop : get_or line i 0 ≢ get_or key i 0 → starts (drop i key) (drop i line) ≡ false
  unfolding starts
  starts_stop other = rw (drop-cons key i 0 k, drop-cons line i 0 l, ne_eqb (get_or key i 0) (get_or line i 0) (λ e. other (sym e)))

  -- The same goes on.
  pub starts_next : get_or line i 0 ≡ get_or key i 0 → starts (drop i key) (drop i line) ≡ starts (drop (i + 1) key) (drop (i + 1) line)
  unfolding starts
  starts_next same = rw (drop-cons key i 0 k, drop-cons line i 0 l, eq-eqb (get_or key i 0) (get_or line i 0) (sym same), add-one i)

-- The part of a list from place i up to place j.
abbrev pub slice : ℕ → ℕ → List ℕ → List ℕ
slice i j xs = take (j - i) (drop i xs)

-- The part up to place n is the front of n bytes.
pub slice_front : (n : ℕ) (xs : List ℕ) → slice 0 n xs ≡ take n xs
slice_front n xs = rw (sub-zero n)

-- The part up to the end is the whole list.
pub slice_whole : (xs : List ℕ) → slice 0 (length xs) xs ≡ xs
slice_whole xs = rw (sub-zero (length xs), take-length xs)

-- No byte is found in a part without any.
pub index_none : (b i j : ℕ) (xs : List ℕ) → j ≤ i → index_of b (slice i j xs) ≡ 0
unfolding index_of
index_none b i j xs le = let none : j - i ≡ 0 = omega arith in rw none

-- The first byte of a part.
module _ (b i j : ℕ) (xs : List ℕ) (more : i < j) (inside : j ≤ length xs) where
  -- It stands before the rest of the part.
  slice_next : slice i j xs ≡ get_or xs i 0 ∷ slice (i + 1) j xs
  slice_next = let one : j - i ≡ suc (j - suc i) = omega arith in rw (add-one i, one, drop-cons xs i 0 (omega arith))

  -- Where it is b, b is found there.
  pub index_here : get_or xs i 0 ≡ b → index_of b (slice i j xs) ≡ 0
  unfolding index_of index_after
  index_here same = rw (slice_next, eq-eqb (get_or xs i 0) b same)

  -- Where it is another, b is looked for in the rest.
  pub index_later : get_or xs i 0 ≢ b → index_of b (slice i j xs) ≡ suc (index_of b (slice (i + 1) j xs))
  unfolding index_of index_after
  index_later other = rw (slice_next, ne_eqb (get_or xs i 0) b other)

-- Two decimals are no pair where the first is wrong.
pub first_wrong : (b : Option ℕ) → None ≡ option_zip {T = ℕ} None b
first_wrong (Some n) = refl
first_wrong None = refl

-- Nor where the second is.
second_wrong : (a : Option ℕ) → None ≡ option_zip {U = ℕ} a None
second_wrong (Some n) = refl
second_wrong None = refl

-- A search for a comma that answers its place, or the part's length.
module _ (part : List ℕ) {c : ℕ} (found : c ≡ 0 + index_of 44 (slice 0 (length part) part)) where
  -- It finds the first.
  comma : c ≡ index_of 44 part
  comma = rw (found, slice_whole part) (omega arith)

  -- Without one there is no pair.
  pub pair_refused : c ≡ length part → None ≡ pair_of part
  unfolding pair_of decimal_of is_plain
  pair_refused e = rw (drop_of_length-le part {i = suc (index_of 44 part)} (omega (arith, e, comma))) (second_wrong (decimal_of (take (index_of 44 part) part)))

  -- With one there are two parts.
  pub pair_read : option_zip (decimal_of (take c part)) (decimal_of (drop (c + 1) part)) ≡ pair_of part
  unfolding pair_of
  pair_read = rw (comma, add-one (index_of 44 part))

-- At the end of the text a line is missing where fewer than two were read.
pub text_missing : {text roots heap : List ℕ} {b : SoFar} {at : ℕ} → Between text roots heap b at → length text ≤ at → b.lines < 2 → wrong (b.lines + 1) ≡ text_of text
unfolding read_on lines_of
text_missing {text} {roots} {heap} {b} g le few = sym (rw (drop_of_length-le text le, lt-leb 2 b.lines few)) ∙ g.rest

-- Else the text is right.
pub text_ends_right : {text roots heap : List ℕ} {b : SoFar} {at : ℕ} → Between text roots heap b at → length text ≤ at → 2 ≤ b.lines → right (shows b roots heap) ≡ text_of text
text_ends_right {roots = roots} {heap = heap} {b = b} g le enough = ends_right (shows b roots heap) enough ∙ text_ends g le
