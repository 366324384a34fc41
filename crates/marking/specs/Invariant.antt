-- What holds at every moment of a collection.
use Prim.{Unit}
use Rattle.std.specs.Prelude.{ℕ, ◌+◌, ◌-◌, ◌*◌, ◌≤◌, ◌≡◌, List, [], ◌∷◌, ◌++◌, length}
use Rattle.words.specs.Header.{fields_of}
use Rattle.words.proofs.HeaderLaws.{Formed}
use Rattle.layout.specs.Limits.{map_words}
use Rattle.runs.specs.Runs.{free_list}
use Rattle.runs.specs.Lists.{listed}
use Rattle.marking.specs.Marking.{Marking, Outcome, going, done, refused}

-- The references still to be read, in their order, behind those of the object in hand: those of the objects on the stack, then the roots.
unfoldable pub behind : List ℕ → List ℕ → List ℕ → List ℕ
behind heap [] roots = roots
behind heap (a ∷ stack) roots = fields_of heap a ++ behind heap stack roots

-- The references still to be read, in their order.
unfoldable pub queue : List ℕ → Marking → List ℕ
queue heap m = m.todo ++ behind heap m.stack m.roots

-- Every object on the stack is well-formed.
abbrev pub AllFormed : List ℕ → ℕ → List ℕ → Type 0
AllFormed heap t [] = Unit
AllFormed heap t (a ∷ stack) = Formed heap t a × AllFormed heap t stack

-- There is room: the map has its needed words, marked and listed words lie behind word 0, no object is shorter than t, and the stack has no more objects than are marked, all well-formed.
pub record Room (heap : List ℕ) (t : ℕ) (map stack : List ℕ) (objects live : ℕ) : Type 0 where
  pub sized : length map ≡ map_words (length heap)
  pub words : live + listed (free_list t heap map) ≤ length heap - 1
  pub dense : t * objects ≤ live
  pub depth : length stack ≤ objects
  pub formed : AllFormed heap t stack

-- The invariant: there is room, and references read, references to be read and marked objects are together no more than roots and live words.
pub record Invariant (heap : List ℕ) (t : ℕ) (roots : List ℕ) (m : Marking) : Type 0 where
  pub room : Room heap t m.map m.stack m.objects m.live
  pub read : m.references + length (queue heap m) + m.objects ≤ length roots + m.live

-- No fewer moves than are left before the last one.
unfoldable pub ahead : List ℕ → Marking → ℕ
ahead heap m = length (queue heap m) + length m.stack + (length heap - m.live)

-- Where a collection goes on, this holds of it.
abbrev pub Still : (Marking → Type 0) → Outcome → Type 0
Still P (going m) = P m
Still P (done m) = Unit
Still P (refused c r) = Unit

-- A collection has ended.
abbrev pub HasEnded : Outcome → Type 0
HasEnded (going m) = ⊥
HasEnded (done m) = Unit
HasEnded (refused c r) = Unit
