-- What goes on between two moments of a history.
use Prim.{Unit}
use Rattle.std.specs.Prelude.{ℕ, ◌-◌, ◌<◌, ◌≡◌, false, List, [], ◌∷◌}
use Rattle.words.specs.Header.{header_at}
use Rattle.demands.specs.Reach.{Reach}
use Rattle.demands.specs.World.{On, field_at, Call, allot, read, write, collect, survey}
use Rattle.demands.specs.History.{History, ◌then◌, world, keep_of, stores, Held, allotted_as, onward}

-- P holds of each of these calls, made after `past`, and of the history before it.
unfoldable pub Along : (History → Call → Type 0) → History → List Call → Type 0
Along P past [] = Unit
Along P past (c ∷ calls) = P past c × Along P (past then c) calls

-- If the call is a collection, its roots reach the object at a.
unfoldable pub Reaches : ℕ → History → Call → Type 0
Reaches a past (allot s p) = Unit
Reaches a past (read b j) = Unit
Reaches a past (write b j v) = Unit
Reaches a past (collect roots) = Reach (world past).heap (keep_of past) roots a
Reaches a past survey = Unit

-- If the call is a write, it does not store in field k of the object at a.
unfoldable pub Spares : ℕ → ℕ → History → Call → Type 0
Spares a k past (allot s p) = Unit
Spares a k past (read b j) = Unit
Spares a k past (write b j v) = stores (world past) b j v a k ≡ false
Spares a k past (collect roots) = Unit
Spares a k past survey = Unit

-- The object at a comes through these calls, made after `past`.
pub record ComesThrough (past : History) (calls : List Call) (a : ℕ) : Type 0 where
  -- It is not lost.
  pub held : Held (onward past calls) a
  -- It is not moved: it is on the map, at its address.
  pub unmoved : On (world (onward past calls)) a
  -- Its header is the same.
  pub header : header_at (world (onward past calls)).heap a ≡ header_at (world past).heap a
  -- A field is the same unless a write stored in it.
  pub fields : (k : ℕ) → k < (allotted_as past a).size - 1 → Along (Spares a k) past calls → field_at (world (onward past calls)) a k ≡ field_at (world past) a k
