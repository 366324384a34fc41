-- What map, references to be read and counts say of what is reached, at every moment of a collection.
use Rattle.std.specs.Prelude.{ℕ, ◌+◌, ◌≡◌, ◌≢◌, true, false, length}
use mathlib.Core.List.{List, [], Memᴰ}
use Rattle.words.specs.Header.{size_at, well_formed, fields_of}
use Rattle.words.specs.Map.{bit_at}
use Rattle.layout.specs.Limits.{map_words}
use Rattle.marking.specs.Marking.{Marking, Outcome, going, done, refused}
use Rattle.marking.specs.Invariant.{queue}
use Rattle.demands.specs.Reach.{Refers, Reach, Overlap, Fault}
use Rattle.demands.specs.Demand2.{total}

-- The map has its needed words, and the objects on it are reached, well-formed and apart.
pub record Marked (heap : List ℕ) (t : ℕ) (roots map : List ℕ) : Type 0 where
  pub sized : length map ≡ map_words (length heap)
  pub reached : (a : ℕ) → bit_at map a ≡ true → Reach heap t roots a
  pub formed : (a : ℕ) → bit_at map a ≡ true → well_formed heap t a ≡ true
  pub apart : (a b : ℕ) → bit_at map a ≡ true → bit_at map b ≡ true → a ≢ b → ¬ Overlap heap a b

-- The reference r is a root, or one of an object on the map.
pub data Named (heap roots map : List ℕ) (r : ℕ) : Type 0 where
  a_root : Memᴰ r roots → Named heap roots map r
  a_field : (a : ℕ) → bit_at map a ≡ true → Refers heap a r → Named heap roots map r

-- With the references in q to be read: each of them is empty or reached, and each root and each reference of an object on the map is empty, or marked, or one of them.
pub record Pending (heap : List ℕ) (t : ℕ) (roots map q : List ℕ) : Type 0 where
  pub reached : (r : ℕ) → Memᴰ r q → r ≢ 0 → Reach heap t roots r
  pub named : (r : ℕ) → Named heap roots map r → r ≢ 0 → bit_at map r ≡ false → Memᴰ r q

-- With n references to be read: the counts are sums over the objects on the map, and the roots.
pub record Counted (heap roots map : List ℕ) (n objects live references : ℕ) : Type 0 where
  pub objects_are : objects ≡ total (bit_at map) (λ a. 1) (length heap)
  pub live_is : live ≡ total (bit_at map) (size_at heap) (length heap)
  pub references_are : references + n ≡ length roots + total (bit_at map) (λ a. length (fields_of heap a)) (length heap)

-- At the moment m, with the references in q to be read.
pub record Tracks (heap : List ℕ) (t : ℕ) (roots q : List ℕ) (m : Marking) : Type 0 where
  pub marked : Marked heap t roots m.map
  pub pending : Pending heap t roots m.map q
  pub counted : Counted heap roots m.map (length q) m.objects m.live m.references

-- A collection goes on with all this, or is done with nothing left to be read, or is refused for a fault.
abbrev pub Told : List ℕ → ℕ → List ℕ → Outcome → Type 0
Told heap t roots (going m) = Tracks heap t roots (queue heap m) m
Told heap t roots (done m) = Tracks heap t roots [] m
Told heap t roots (refused c r) = Fault heap t roots c r
