-- The buffers and numbers of a collection, read as the machine.
use Prim.{Unit}
use base.Fml.{GName}
use Rattle.std.specs.Prelude.{ℕ, zero, suc, ◌+◌, ◌/◌, ◌≤◌, ◌<◌, max, ◌≡◌, Bool, true, false, List, [], ◌∷◌, length, get_or, set, take, drop, replicate, Result, Ok, Err, IfOk}
use Rattle.words.specs.Map.{set_bit}
use Rattle.layout.specs.Refusal.{number}
use Rattle.layout.specs.Intervals.{shown}
use Rattle.layout.specs.declared.Interval.{Interval}
use Rattle.layout.specs.Limits.{max_words, max_roots, map_words, stack_words, list_words}
use Rattle.layout.specs.LimitsLaws.{Limits}
use Rattle.layout.specs.SetUp.{first_list}
use Rattle.runs.specs.Runs.{free_list}
use Rattle.freelist.specs.Records.{records}
use Rattle.marking.specs.Marking.{Marking, Outcome, going, done, refused, meet, move, collection}
use Rattle.marking.specs.Invariant.{Room, Invariant}
use Rattle.machine.specs.declared.Progress.{Progress}
use Rattle.machine.specs.declared.Fault.{Fault}
use Rattle.machine.specs.declared.Machine.{Machine}

-- The first n words of the stack's buffer, the last of them first.
unfoldable pub pile : List ℕ → ℕ → List ℕ
pile stack zero = []
pile stack (suc n) = get_or stack n 0 ∷ pile stack n

-- The machine that buffers and numbers stand for.
abbrev pub marking_of : List ℕ → List ℕ → List ℕ → List ℕ → Progress → Marking
marking_of heap roots map stack p = record {
  todo = take p.left (drop p.at heap);
  stack = pile stack p.depth;
  roots = drop p.next roots;
  map = map;
  objects = p.objects;
  live = p.live;
  references = p.references;
  peak = p.peak;
}

-- How a run ended.
abbrev pub end_of : List ℕ → List ℕ → List ℕ → List ℕ → Result Progress Fault → Outcome
end_of heap roots map stack (Ok q) = done (marking_of heap roots map stack q)
end_of heap roots map stack (Err f) = refused (number f.refusal) f.place

-- The list's buffer shows the free list of the map, and n is its count.
pub record Shows (heap : List ℕ) (t : ℕ) (map list : List ℕ) (n : ℕ) : Type 0 where
  pub count : n ≡ length (free_list t heap map)
  pub words : list ≡ shown (list_words (length heap) t) (free_list t heap map)

-- Buffers and numbers fit each other.
pub record Fit (heap : List ℕ) (t : ℕ) (map stack list : List ℕ) (p : Progress) : Type 0 where
  pub limits : Limits (length heap) t
  pub stack_size : length stack ≡ stack_words (length heap) t
  pub in_hand : p.at + p.left ≤ length heap
  pub shows : Shows heap t map list p.count

-- The machine that the struct stands for, with its buffers and numbers.
abbrev pub marking : Machine → Marking
marking m = marking_of m.heap.now m.roots.now m.map.now m.stack.now m.progress

-- Its buffers and numbers fit each other.
abbrev pub Fits : Machine → Type 0
Fits m = Fit m.heap.now m.keep m.map.now m.stack.now m.list.now m.progress

-- The intervals that its list shows.
abbrev pub listed : Machine → List Interval
listed m = records m.progress.count m.list.now

-- What a machine is lent: what it reads, and which buffers it writes.
pub record Lent : Type 0 where
  pub heap : List ℕ
  pub keep : ℕ
  pub roots : List ℕ
  pub map : GName
  pub stack : GName
  pub list : GName

-- It is the same before a move and after.
abbrev pub lent : Machine → Lent
lent m = record { heap = m.heap.now; keep = m.keep; roots = m.roots.now; map = m.map.ghost_name; stack = m.stack.ghost_name; list = m.list.ghost_name }

-- What a move came to, as an outcome of the machine.
abbrev pub outcome_of : Machine → Result Bool Fault → Outcome
outcome_of m (Ok true) = going (marking m)
outcome_of m (Ok false) = done (marking m)
outcome_of m (Err f) = refused (number f.refusal) f.place

-- Where a reference was met a move goes on.
abbrev pub moved_of : Result Unit Fault → Result Bool Fault
moved_of (Ok _) = Ok true
moved_of (Err f) = Err f

-- A reference can be met.
pub record Meeting (m : Machine) : Type 0 where
  pub fit : Fits m
  pub room : Room m.heap.now m.keep m.map.now (pile m.stack.now m.progress.depth) m.progress.objects m.progress.live

-- The numbers after an object of s words is marked and pushed, with n intervals listed.
abbrev pub noted : Progress → ℕ → ℕ → Progress
noted p s n = record p { depth = p.depth + 1; count = n; objects = p.objects + 1; live = p.live + s; peak = max p.peak n }

-- The struct after the object of s words at r is marked and pushed, with n intervals listed.
abbrev pub pushed : Machine → ℕ → ℕ → ℕ → Machine
pushed m r s n = record m {
  map = record m.map { now = set_bit m.map.now r };
  stack = record m.stack { now = set m.stack.now m.progress.depth r };
  progress = noted m.progress s n;
}

-- There is room to mark r and to push it.
pub record Noting (m : Machine) (r s : ℕ) : Type 0 where
  pub here : r / 32 < length m.map.now
  pub word : r < max_words
  pub deep : m.progress.depth < length m.stack.now
  pub depth : m.progress.depth < max_words
  pub objects : m.progress.objects < max_words
  pub live : m.progress.live + s < max_words

-- From m it came to m', with what the machine comes to, and it is lent the same.
pub record ComesTo (m m' : Machine) (o : Result Bool Fault) (to : Outcome) : Type 0 where
  pub same : outcome_of m' o ≡ to
  pub fit : IfOk o (λ _. Fits m')
  pub lent : lent m' ≡ lent m

-- The reference r was met as the machine meets it.
abbrev pub Met : Machine → ℕ → Machine → Result Unit Fault → Type 0
Met m r m' o = ComesTo m m' (moved_of o) (meet m.heap.now m.keep (marking m) r)

-- A move can be made.
pub record Ready (m : Machine) : Type 0 where
  pub fit : Fits m
  pub few : length m.roots.now ≤ max_roots
  pub invariant : Invariant m.heap.now m.keep m.roots.now (marking m)

-- A move was made as the machine makes it.
abbrev pub Moved : Machine → Machine → Result Bool Fault → Type 0
Moved m m' o = ComesTo m m' o (move m.heap.now m.keep (marking m))

-- The buffers stand as at the beginning: a clear map, and the first list with its count.
pub record Begun (heap : List ℕ) (t : ℕ) (roots map stack list : List ℕ) (count : ℕ) : Type 0 where
  pub limits : Limits (length heap) t
  pub few : length roots ≤ max_roots
  pub map_clear : map ≡ replicate (map_words (length heap)) 0
  pub stack_size : length stack ≡ stack_words (length heap) t
  pub list_first : list ≡ shown (list_words (length heap) t) (first_list (length heap) t)
  pub count_first : count ≡ length (first_list (length heap) t)

-- The run came to what the whole collection comes to.
pub record Ran (heap : List ℕ) (t : ℕ) (roots map' stack' list' : List ℕ) (e : Result Progress Fault) : Type 0 where
  pub same : end_of heap roots map' stack' e ≡ collection heap t roots
  pub fit : IfOk e (λ p. Fit heap t map' stack' list' p)
