-- The world that calls act on, and the effect of a call.
use Rattle.std.specs.Prelude.{ℕ, ◌≡◌, true, List, [], ◌∷◌, length, get_or}
use Rattle.words.specs.Map.{is_start}
use Rattle.layout.specs.SetUp.{Prepared, sets_up}
use Rattle.layout.specs.declared.State.{State}
use Rattle.collector.specs.Collect.{Collected, Left, collects}
use Rattle.store.specs.Allot.{Allotment, allots}
use Rattle.store.specs.Fields.{Reading, word_of, Written, reads, writes}
use Rattle.store.specs.Survey.{Surveyed, surveys}

-- What each call gets from the last one: the heap, the state, and the buffers.
pub record World : Type 0 where
  pub heap : List ℕ
  pub state : State
  pub map : List ℕ
  pub stack : List ℕ
  pub list : List ℕ

-- A world, put together.
abbrev pub made : List ℕ → State → List ℕ → List ℕ → List ℕ → World
made heap state map stack list = record { heap = heap; state = state; map = map; stack = stack; list = list }

-- An object starts at a on the world's map.
abbrev pub On : World → ℕ → Type 0
On w a = is_start (length w.heap) w.map a ≡ true

-- What stands in field k of the object at a.
abbrev pub field_at : World → ℕ → ℕ → ℕ
field_at w a k = get_or w.heap (word_of a k) 0

-- The world that set-up makes of a heap, a stack, and what it has prepared.
abbrev pub begun : List ℕ → List ℕ → Prepared → World
begun heap stack x = made heap x.answer.state x.map stack x.list

-- The world that set-up leaves of a heap, a keep length, and a map, a stack and a list that are lent.
unfoldable pub new_world : List ℕ → ℕ → List ℕ → List ℕ → List ℕ → World
new_world heap t map stack list = begun heap stack (sets_up heap t map list)

-- A call after set-up, with what its caller chooses.
pub data Call : Type 0 where
  allot : (s p : ℕ) → Call
  read : (a k : ℕ) → Call
  write : (a k v : ℕ) → Call
  collect : (roots : List ℕ) → Call
  survey : Call

-- The effect of a call: the numbers that it answers, in the order in which the rules give them, and the world that it leaves.
pub record Effect : Type 0 where
  pub answer : List ℕ
  pub left : World

-- The effect on the world w of an allot that gave x.
abbrev pub of_allot : World → Allotment → Effect
of_allot w x = record { answer = x.answer.code ∷ x.answer.address ∷ []; left = made x.heap x.answer.state x.map w.stack x.list }

-- That of a read.
abbrev pub of_read : World → Reading → Effect
of_read w x = record { answer = x.code ∷ x.value ∷ []; left = w }

-- That of a write.
abbrev pub of_write : World → Written → Effect
of_write w x = record { answer = x.code ∷ []; left = made x.heap w.state w.map w.stack w.list }

-- That of a collection.
abbrev pub of_collect : World → Left → Effect
of_collect w x =
    let a : Collected = x.answer in
    record { answer = a.code ∷ a.place ∷ a.objects ∷ a.live ∷ a.references ∷ a.peak ∷ []; left = made w.heap a.state x.map x.stack x.list }

-- That of a survey.
abbrev pub of_survey : World → Surveyed → Effect
of_survey w x = record { answer = x.code ∷ x.figures.listed ∷ x.figures.largest ∷ x.figures.fragment ∷ []; left = w }

-- What an allot on the world w gives.
abbrev pub allots_on : World → ℕ → ℕ → Allotment
allots_on w s p = allots w.state w.heap w.map w.list s p

-- What a read gives.
abbrev pub reads_on : World → ℕ → ℕ → Reading
reads_on w a k = reads w.state w.heap w.map a k

-- What a write gives.
abbrev pub writes_on : World → ℕ → ℕ → ℕ → Written
writes_on w a k v = writes w.state w.heap w.map a k v

-- What a collection gives.
abbrev pub collects_on : World → List ℕ → Left
collects_on w roots = collects w.state w.heap roots w.map w.stack w.list

-- What a survey gives.
abbrev pub surveys_on : World → Surveyed
surveys_on w = surveys w.state w.list

-- The effect of a call on the world w.
unfoldable pub effect : World → Call → Effect
effect w (allot s p) = of_allot w (allots_on w s p)
effect w (read a k) = of_read w (reads_on w a k)
effect w (write a k v) = of_write w (writes_on w a k v)
effect w (collect roots) = of_collect w (collects_on w roots)
effect w survey = of_survey w (surveys_on w)

-- The world that it leaves.
abbrev pub after : World → Call → World
after w c = (effect w c).left

-- The numbers that it answers.
abbrev pub answers : World → Call → List ℕ
answers w c = (effect w c).answer
