-- Laws of headers.
use Rattle.std.specs.Prelude.{ℕ, suc, ◌+◌, ◌/◌, ◌%◌, ◌≤◌, ◌<◌, ◌≡◌, true, List, length, get_or, drop}
use Rattle.std.proofs.Common.{ap, mod-lt, arith, lit<}
use Rattle.std.proofs.Math.Bool.{and-eq-true_iff}
use Rattle.std.proofs.Math.ListN.{length-drop}
use Rattle.std.proofs.Math.Seq.{length-take-le}
use borrow.Author.Tests.{leb-true, ltb-true, le-leb, lt-ltb}
use Rattle.words.specs.Header.{size_at, refs_at, header_at, header_word, well_formed, fields_of}
use Rattle.words.specs.declared.header.Header.{Header}

-- A size has 16 bits.
pub size_small : (heap : List ℕ) (a : ℕ) → size_at heap a < 65536
unfolding size_at
size_small heap a = mod-lt (get_or heap a 0) (lit< tt)

-- The word of a header has its two parts.
pub word_parts : (s p : ℕ) → s < 65536 → (header_word s p % 65536 ≡ s) × (header_word s p / 65536 ≡ p)
unfolding header_word
word_parts s p small = (omega arith, omega arith)

-- What a well-formed header says.
pub record Formed (heap : List ℕ) (t a : ℕ) : Type 0 where
  pub least : t ≤ size_at heap a
  pub fewer : refs_at heap a < size_at heap a
  pub ends : a + size_at heap a ≤ length heap

module _ (heap : List ℕ) (t a : ℕ) where
  -- The test says so.
  pub formed : well_formed heap t a ≡ true → Formed heap t a
  unfolding well_formed
  formed e =
      let x = (and-eq-true_iff _ _).0 e in
      let y = (and-eq-true_iff _ _).0 x.0 in
      record { least = leb-true t (size_at heap a) y.0; fewer = ltb-true (refs_at heap a) (size_at heap a) y.1; ends = leb-true (a + size_at heap a) (length heap) x.1 }

  module _ (f : Formed heap t a) where
    -- And only then.
    pub is_formed : well_formed heap t a ≡ true
    unfolding well_formed
    is_formed = rw (le-leb t (size_at heap a) f.least, lt-ltb (refs_at heap a) (size_at heap a) f.fewer, le-leb (a + size_at heap a) (length heap) f.ends)

    -- All references of a well-formed object lie in the heap.
    pub length_fields : length (fields_of heap a) ≡ refs_at heap a
    unfolding fields_of
    length_fields = length-take-le (refs_at heap a) (drop (suc a) heap) (simp length-drop (omega arith))

-- Equal headers have one size, and one number of references.
pub equal_size : {x y : Header} → x ≡ y → x.size ≡ y.size
equal_size = ap (λ (h : Header). h.size)

pub equal_refs : {x y : Header} → x ≡ y → x.refs ≡ y.refs
equal_refs = ap (λ (h : Header). h.refs)

-- A header goes by its word.
pub header_same : (heap heap' : List ℕ) (a : ℕ) → get_or heap' a 0 ≡ get_or heap a 0 → header_at heap' a ≡ header_at heap a
unfolding size_at refs_at
header_same heap heap' a e = rw e

-- Whether an object is well-formed goes by its header and the heap's length.
pub formed_same : (heap heap' : List ℕ) (t a : ℕ) → header_at heap' a ≡ header_at heap a → length heap' ≡ length heap → well_formed heap t a ≡ true → well_formed heap' t a ≡ true
unfolding well_formed
formed_same heap heap' t a e long well =
    let size : size_at heap' a ≡ size_at heap a = equal_size e in
    let refs : refs_at heap' a ≡ refs_at heap a = equal_refs e in
    rw (size, refs, long) well
