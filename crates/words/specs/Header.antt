-- Objects and their headers.
use Rattle.std.specs.Prelude.{ℕ, suc, ◌+◌, ◌*◌, ◌/◌, ◌%◌, Bool, ◌&&◌, List, length, get_or, take, drop, leb, ltb}
use Rattle.words.specs.declared.header.Header.{Header}

-- The size of the object at a, its header included: the low 16 bits of the word there.
unfoldable pub size_at : List ℕ → ℕ → ℕ
size_at heap a = get_or heap a 0 % 65536

-- How many references the object at a has: the high 16 bits of the word there.
unfoldable pub refs_at : List ℕ → ℕ → ℕ
refs_at heap a = get_or heap a 0 / 65536

-- The parts of the header at a.
abbrev pub header_at : List ℕ → ℕ → Header
header_at heap a = record { size = size_at heap a; refs = refs_at heap a }

-- The word of a header with size s and p references.
unfoldable pub header_word : ℕ → ℕ → ℕ
header_word s p = p * 65536 + s

-- The object at a is well-formed: it has at least t words, fewer references than words, and ends within the heap.
unfoldable pub well_formed : List ℕ → ℕ → ℕ → Bool
well_formed heap t a = leb t (size_at heap a) && ltb (refs_at heap a) (size_at heap a) && leb (a + size_at heap a) (length heap)

-- The references of the object at a, from field 0 upward.
unfoldable pub fields_of : List ℕ → ℕ → List ℕ
fields_of heap a = take (refs_at heap a) (drop (suc a) heap)
