-- Why a reference that is met passes, is marked or is refused.
use Rattle.std.specs.Prelude.{ℕ, ◌≤◌, ◌<◌, ◌≡◌, ◌≢◌, true, false, List, length}
use Rattle.words.specs.Header.{well_formed}
use Rattle.words.specs.Map.{bit_at}
use Rattle.marking.specs.Marking.{Marking, Outcome, going, refused, marked, overlaps}

-- The reference r is an address of the heap with no object on the map.
pub record New (heap map : List ℕ) (r : ℕ) : Type 0 where
  pub some : r ≢ 0
  pub inside : r < length heap
  pub unmarked : bit_at map r ≡ false

-- What meeting the reference r comes to, and why.
pub data Meets (heap : List ℕ) (t : ℕ) (m : Marking) (r : ℕ) : Outcome → Type 0 where
  empty : r ≡ 0 → Meets heap t m r (going m)
  outside : r ≢ 0 → length heap ≤ r → Meets heap t m r (refused 4 r)
  again : r ≢ 0 → r < length heap → bit_at m.map r ≡ true → Meets heap t m r (going m)
  ill_formed : New heap m.map r → well_formed heap t r ≡ false → Meets heap t m r (refused 5 r)
  overlapping : New heap m.map r → well_formed heap t r ≡ true → overlaps heap m.map r ≡ true → Meets heap t m r (refused 6 r)
  apart : New heap m.map r → well_formed heap t r ≡ true → overlaps heap m.map r ≡ false → Meets heap t m r (going (marked heap t m r))
