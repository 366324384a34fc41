-- Laws of a heap with a new object.
use Prim.Native.Nat.{ℕ, suc, ◌+◌, ◌-◌, ◌≤◌, ◌<◌}
use Rattle.std.specs.Prelude.{◌≡◌, ◌⊎◌, set}
use Rattle.std.proofs.Common.{sym, ◌∙◌, inl, inr, take-suc-set, drop-set-lt}
use Rattle.std.proofs.Math.Path.{ap}
use mathlib.Core.List.{List, [], ◌∷◌, ◌++◌, append_assoc}
use native.Mathlib.Omega.{arith}
use Rattle.std.proofs.Math.ListN.{length, get_or, take, drop, replicate, length-append, length-drop, length-set, get_or-append}
use Rattle.std.proofs.lemmas.List.{length-replicate, get_or-replicate, get_or_at}
use Rattle.std.proofs.Math.Seq.{length-take-le, drop-drop, drop-append-add, append_snoc, drop_at, get_or-take, get_or-drop}
use Rattle.words.specs.Header.{size_at, refs_at, header_at, header_word}
use Rattle.words.proofs.HeaderLaws.{word_parts}
use Rattle.store.specs.Allot.{with_object}

module _ (heap : List ℕ) (a s p : ℕ) (some : p < s) (fits : a + s ≤ length heap) where
  -- The heap with the header.
  abbrev headed : ℕ → List ℕ
  headed w = set heap a w

  -- How many words are behind it.
  abbrev behind : ℕ
  behind = a + s - (a + 1)

  -- A header stored at a, and the words behind it cleared up to the object's end, make the object.
  pub laid : {w : ℕ} {part : List ℕ} → w ≡ header_word s p → part ≡ replicate (length (take behind (drop (a + 1) (headed w)))) 0 → take (a + 1) (headed w) ++ (part ++ drop behind (drop (a + 1) (headed w))) ≡ with_object heap a s p
  unfolding with_object
  laid {w} {part} e q =
      let one : a + 1 ≡ suc a = omega arith in
      let front : take (a + 1) (headed w) ≡ take a heap ++ (w ∷ []) = rw one (take-suc-set heap a w (omega arith)) in
      let long : length (take behind (drop (a + 1) (headed w))) ≡ s - 1 = length-take-le behind (drop (a + 1) (headed w)) (omega (arith, length-drop (a + 1) (headed w), length-set heap a w)) ∙ omega arith in
      let ends : a + 1 + behind ≡ a + s = omega arith in
      let rest : drop behind (drop (a + 1) (headed w)) ≡ drop (a + s) heap = ap (drop behind) (drop-set-lt (a + 1) heap a w (omega arith)) ∙ drop-drop behind (a + 1) heap ∙ ap (λ (n : ℕ). drop n heap) ends in
      rw (front, rest, q, long, e) (sym (append_assoc (take a heap ++ (header_word s p ∷ [])) (replicate (s - 1) 0) (drop (a + s) heap)) ∙ ap (λ (t : List ℕ). t ++ drop (a + s) heap) (append_snoc (take a heap) (header_word s p) (replicate (s - 1) 0)))

  -- There are a + s words up to the object's end.
  length_front : length (take a heap ++ (header_word s p ∷ replicate (s - 1) 0)) ≡ a + s
  length_front = omega (arith, length-append (take a heap) (header_word s p ∷ replicate (s - 1) 0), length-take-le a heap (omega arith), length-replicate {A = ℕ} (s - 1) 0)

  -- The heap keeps its length.
  pub length-laid : length (with_object heap a s p) ≡ length heap
  unfolding with_object
  length-laid = omega (arith, length-append (take a heap ++ (header_word s p ∷ replicate (s - 1) 0)) (drop (a + s) heap), length_front, length-drop (a + s) heap)

  -- What stands from a on: the header, zeros, and what was behind.
  from_header : with_object heap a s p ≡ take a heap ++ (header_word s p ∷ (replicate (s - 1) 0 ++ drop (a + s) heap))
  unfolding with_object
  from_header = append_assoc (take a heap) (header_word s p ∷ replicate (s - 1) 0) (drop (a + s) heap)

  -- The object has the size and the references that were asked for.
  pub new_header : s < 65536 → header_at (with_object heap a s p) a ≡ record { size = s; refs = p }
  unfolding size_at refs_at
  new_header small =
      let word : get_or (with_object heap a s p) a 0 ≡ header_word s p = rw from_header (get_or_at (take a heap) (header_word s p) (replicate (s - 1) 0 ++ drop (a + s) heap) 0 a (length-take-le a heap (omega arith))) in
      rw (word, (word_parts s p small).0, (word_parts s p small).1)

  -- What stands behind the header: zeros, and what was behind.
  from_fields : drop (suc a) (with_object heap a s p) ≡ replicate (s - 1) 0 ++ drop (a + s) heap
  from_fields =
      let one : length (take a heap) + 1 ≡ suc a = omega (arith, length-take-le a heap (omega arith)) in
      rw (← one, from_header) (drop-append-add (take a heap) (header_word s p ∷ (replicate (s - 1) 0 ++ drop (a + s) heap)) 1)

  -- Every word outside the object is as it was.
  pub new_others : (w : ℕ) → (w < a) ⊎ (a + s ≤ w) → get_or (with_object heap a s p) w 0 ≡ get_or heap w 0
  unfolding with_object
  new_others w (inl before) =
      rw from_header (get_or-append (take a heap) (header_word s p ∷ (replicate (s - 1) 0 ++ drop (a + s) heap)) 0 w (omega (arith, length-take-le a heap (omega arith))) ∙ get_or-take a heap w 0 before)
  new_others w (inr after) =
      let i : ℕ = w - (a + s) in
      let place : a + s + i ≡ w = omega arith in
      let rest : drop (a + s) (with_object heap a s p) ≡ drop (a + s) heap = drop_at (take a heap ++ (header_word s p ∷ replicate (s - 1) 0)) (drop (a + s) heap) (a + s) length_front in
      rw place at (sym (get_or-drop (a + s) (with_object heap a s p) i 0) ∙ ap (λ (l : List ℕ). get_or l i 0) rest ∙ get_or-drop (a + s) heap i 0)

  -- Every word of it behind the header is 0.
  pub new_zeros : (w : ℕ) → a < w → w < a + s → get_or (with_object heap a s p) w 0 ≡ 0
  new_zeros w lo hi =
      let i : ℕ = w - suc a in
      let place : suc a + i ≡ w = omega arith in
      rw place at (sym (get_or-drop (suc a) (with_object heap a s p) i 0) ∙ ap (λ (l : List ℕ). get_or l i 0) from_fields ∙ get_or-append (replicate (s - 1) 0) (drop (a + s) heap) 0 i (omega (arith, length-replicate {A = ℕ} (s - 1) 0)) ∙ get_or-replicate (s - 1) i 0 0 (omega arith))
