-- Marking: a machine that reads one reference at a time, in the fixed order. The list is no part of it: at every moment it is the free list of the map as it is then.
use Rattle.std.specs.Prelude.{ℕ, zero, suc, ◌+◌, max, Bool, cond, List, [], ◌∷◌, length, replicate, ltb, eqb}
use Rattle.words.specs.Header.{size_at, well_formed, fields_of}
use Rattle.words.specs.Map.{bit_at, set_bit, some_below, covered}
use Rattle.layout.specs.Limits.{map_words}
use Rattle.layout.specs.Refusal.{unless}
use Rattle.runs.specs.Runs.{free_list}

-- What a collection has still to read, and what it has found: the references left of the object in hand, the objects on the stack with the last pushed first, the roots left, the map, and the answer's counts.
pub record Marking : Type 0 where
  pub todo : List ℕ
  pub stack : List ℕ
  pub roots : List ℕ
  pub map : List ℕ
  pub objects : ℕ
  pub live : ℕ
  pub references : ℕ
  pub peak : ℕ

-- A collection goes on, or it is done, or it is refused with a number and the reference met.
pub data Outcome : Type 0 where
  going : Marking → Outcome
  done : Marking → Outcome
  refused : ℕ → ℕ → Outcome

-- The object at r is marked, taken off the list, and pushed.
unfoldable pub marked : List ℕ → ℕ → Marking → ℕ → Marking
marked heap t m r =
    let map : List ℕ = set_bit m.map r in
    record {
      todo = m.todo;
      stack = r ∷ m.stack;
      roots = m.roots;
      map = map;
      objects = suc m.objects;
      live = m.live + size_at heap r;
      references = m.references;
      peak = max m.peak (length (free_list t heap map));
    }

-- Some word of the object at r lies in an object on the map.
unfoldable pub overlaps : List ℕ → List ℕ → ℕ → Bool
overlaps heap map r = some_below (size_at heap r) (λ i. covered heap map (r + i))

-- The reference r is met.
unfoldable pub meet : List ℕ → ℕ → Marking → ℕ → Outcome
meet heap t m r =
    cond (eqb r 0) (going m)
    (unless (ltb r (length heap)) (refused 4 r)
    (cond (bit_at m.map r) (going m)
    (unless (well_formed heap t r) (refused 5 r)
    (cond (overlaps heap m.map r) (refused 6 r)
    (going (marked heap t m r))))))

-- The same finds, with so much left to read and so many references read.
abbrev pub leaving : Marking → List ℕ → List ℕ → List ℕ → ℕ → Marking
leaving m todo stack roots references = record { todo = todo; stack = stack; roots = roots; map = m.map; objects = m.objects; live = m.live; references = references; peak = m.peak }

-- One move: the next reference of the object in hand is met, or an object is popped, or the next root is met.
unfoldable pub move : List ℕ → ℕ → Marking → Outcome
move heap t m = next m.todo m.stack m.roots
  where
    next : List ℕ → List ℕ → List ℕ → Outcome
    next (r ∷ todo) stack roots = meet heap t (leaving m todo stack roots (suc m.references)) r
    next [] (a ∷ stack) roots = going (leaving m (fields_of heap a) stack roots m.references)
    next [] [] (r ∷ roots) = meet heap t (leaving m [] [] roots (suc m.references)) r
    next [] [] [] = done m

-- At most n moves.
unfoldable pub run : ℕ → List ℕ → ℕ → Outcome → Outcome
run zero heap t o = o
run (suc n) heap t (going m) = run n heap t (move heap t m)
run (suc n) heap t (done m) = done m
run (suc n) heap t (refused c r) = refused c r

-- Before the first root: nothing is marked, and the first list is counted.
unfoldable pub begin : List ℕ → ℕ → List ℕ → Marking
begin heap t roots =
    let map : List ℕ = replicate (map_words (length heap)) 0 in
    record { todo = []; stack = []; roots = roots; map = map; objects = 0; live = 0; references = 0; peak = length (free_list t heap map) }

-- A whole collection: no fewer moves than there can be.
unfoldable pub collection : List ℕ → ℕ → List ℕ → Outcome
collection heap t roots = run (suc (length roots + length heap)) heap t (going (begin heap t roots))
