-- Histories: one set-up, and then calls of every kind, each of which gets what the last one left.
use Rattle.store.specs.Allot.{Allotted}
use Prim.{Unit}
use Rattle.std.specs.Prelude.{ℕ, ◌≤◌, ◌≡◌, ◌⊎◌, Bool, true, cond, ◌&&◌, length, eqb}
use mathlib.Core.List.{List, [], ◌∷◌, Memᴰ}
use Rattle.words.specs.declared.header.Header.{Header}
use Rattle.layout.specs.Limits.{max_roots}
use Rattle.demands.specs.Reach.{Reach}
use Rattle.demands.specs.Lent.{Lent}
use Rattle.demands.specs.World.{World, On, Call, allot, read, write, collect, survey, new_world, after, allots_on, writes_on}

infixl 20 ◌then◌
-- A history: one set-up with what is lent to it, and then calls.
pub data History : Type 0 where
  set_up : (heap : List ℕ) (t : ℕ) (map stack list : List ℕ) → History
  ◌then◌ : History → Call → History

-- The world that a history leaves.
unfoldable pub world : History → World
world (set_up heap t map stack list) = new_world heap t map stack list
world (past then c) = after (world past) c

-- How many words its heap has: as many as at set-up.
unfoldable pub words_of : History → ℕ
words_of (set_up heap t map stack list) = length heap
words_of (past then c) = words_of past

-- Its keep length: that of set-up.
unfoldable pub keep_of : History → ℕ
keep_of (set_up heap t map stack list) = t
keep_of (past then c) = keep_of past

-- A root list within the limits, each root of which is empty or names an object on the map then.
pub record Rooted (w : World) (roots : List ℕ) : Type 0 where
  pub few : length roots ≤ max_roots
  pub named : (r : ℕ) → Memᴰ r roots → (r ≡ 0) ⊎ On w r

-- What demand 3 supposes of a call on the world w: of a collection, that its roots are such; of the others, nothing.
unfoldable pub Premise : World → Call → Type 0
Premise w (allot s p) = Unit
Premise w (read b j) = Unit
Premise w (write b j v) = Unit
Premise w (collect roots) = Rooted w roots
Premise w survey = Unit

-- A history keeps the premises of demand 3: what set-up is lent is within the limits, and each call is as supposed.
unfoldable pub Keeps : History → Type 0
Keeps (set_up heap t map stack list) = Lent (record { words = length heap; keep = t; count = 0 }) heap [] map stack list
Keeps (past then c) = Keeps past × Premise (world past) c

-- The answer of an allot gives the address a.
abbrev pub gives_by : Allotted → ℕ → Bool
gives_by answer a = eqb answer.code 0 && eqb answer.address a

-- The allot of s words with p references on the world w gives it.
unfoldable pub gives : World → ℕ → ℕ → ℕ → Bool
gives w s p a = gives_by (allots_on w s p).answer a

-- The write of v to field j of b on the world w is accepted, and that is field k of a.
unfoldable pub stores : World → ℕ → ℕ → ℕ → ℕ → ℕ → Bool
stores w b j v a k = eqb (writes_on w b j v).code 0 && eqb b a && eqb j k

-- The object at a is held: it was allotted, and no collection since has found it unreachable.
unfoldable pub Held : History → ℕ → Type 0
Held (set_up heap t map stack list) a = ⊥
Held (past then allot s p) a = Held past a ⊎ (gives (world past) s p a ≡ true)
Held (past then read b j) a = Held past a
Held (past then write b j v) a = Held past a
Held (past then collect roots) a = Held past a × Reach (world past).heap (keep_of past) roots a
Held (past then survey) a = Held past a

-- The header with which the object at a was last allotted.
unfoldable pub allotted_as : History → ℕ → Header
allotted_as (set_up heap t map stack list) a = record { size = 0; refs = 0 }
allotted_as (past then allot s p) a = cond (gives (world past) s p a) (record { size = s; refs = p }) (allotted_as past a)
allotted_as (past then read b j) a = allotted_as past a
allotted_as (past then write b j v) a = allotted_as past a
allotted_as (past then collect roots) a = allotted_as past a
allotted_as (past then survey) a = allotted_as past a

-- The value last written to field k of the object at a since it was allotted, 0 if none.
unfoldable pub last_written : History → ℕ → ℕ → ℕ
last_written (set_up heap t map stack list) a k = 0
last_written (past then allot s p) a k = cond (gives (world past) s p a) 0 (last_written past a k)
last_written (past then read b j) a k = last_written past a k
last_written (past then write b j v) a k = cond (stores (world past) b j v a k) v (last_written past a k)
last_written (past then collect roots) a k = last_written past a k
last_written (past then survey) a k = last_written past a k

-- The history that goes on with these calls.
unfoldable pub onward : History → List Call → History
onward past [] = past
onward past (c ∷ calls) = onward (past then c) calls
