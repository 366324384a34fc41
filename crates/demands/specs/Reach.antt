-- What the roots reach, said without a machine, and what a collection can find wrong with it.
use Rattle.std.specs.Prelude.{ℕ, ◌+◌, ◌≤◌, ◌<◌, ◌≡◌, ◌≢◌, true, false, length}
use mathlib.Core.List.{List, Memᴰ}
use Rattle.words.specs.Header.{size_at, well_formed, fields_of}

-- The object at a has the reference r.
abbrev pub Refers : List ℕ → ℕ → ℕ → Type 0
Refers heap a r = Memᴰ r (fields_of heap a)

-- The address r is reached: it is not empty, and it is a root, or a reference of a well-formed object that is reached.
pub data Reach (heap : List ℕ) (t : ℕ) (roots : List ℕ) : ℕ → Type 0 where
  by_root : {r : ℕ} → Memᴰ r roots → r ≢ 0 → Reach heap t roots r
  by_field : {a r : ℕ} → Reach heap t roots a → well_formed heap t a ≡ true → Refers heap a r → r ≢ 0 → Reach heap t roots r

-- Word w lies in an object at an address of which P holds.
abbrev pub InObject : List ℕ → (ℕ → Type 0) → ℕ → Type 0
InObject heap P w = (a : ℕ) × P a × (a ≤ w) × (w < a + size_at heap a)

-- Word w lies in an object that is reached.
abbrev pub Live : List ℕ → ℕ → List ℕ → ℕ → Type 0
Live heap t roots = InObject heap (Reach heap t roots)

-- The objects at a and b overlap: each begins before the other ends.
abbrev pub Overlap : List ℕ → ℕ → ℕ → Type 0
Overlap heap a b = (a < b + size_at heap b) × (b < a + size_at heap a)

-- At each address of which P holds there is a well-formed object, and no two such objects overlap.
pub record Objects (heap : List ℕ) (t : ℕ) (P : ℕ → Type 0) : Type 0 where
  pub formed : (a : ℕ) → P a → well_formed heap t a ≡ true
  pub apart : (a b : ℕ) → P a → P b → a ≢ b → ¬ Overlap heap a b

-- Whatever is reached is a well-formed object, and no two such objects overlap.
abbrev pub Sound : List ℕ → ℕ → List ℕ → Type 0
Sound heap t roots = Objects heap t (Reach heap t roots)

-- What a number says of the reference that it names, which is reached: 4, it lies outside the heap; 5, its header is not well-formed; 6, it is well-formed, and overlaps another well-formed object that is reached.
pub data Fault (heap : List ℕ) (t : ℕ) (roots : List ℕ) : ℕ → ℕ → Type 0 where
  bad_address : {r : ℕ} → Reach heap t roots r → length heap ≤ r → Fault heap t roots 4 r
  bad_header : {r : ℕ} → Reach heap t roots r → r < length heap → well_formed heap t r ≡ false → Fault heap t roots 5 r
  overlap : {r b : ℕ} → Reach heap t roots r → well_formed heap t r ≡ true → Reach heap t roots b → well_formed heap t b ≡ true → r ≢ b → Overlap heap r b → Fault heap t roots 6 r
