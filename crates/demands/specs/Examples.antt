-- The worked examples P1 to P11 and four short histories, in one table.
use Rattle.std.specs.Prelude.{ℕ, ◌+◌, ◌-◌, ◌*◌, List, [], ◌∷◌, ◌++◌, length, take, drop, set, replicate}
use Rattle.layout.specs.Limits.{map_words, stack_words, list_words}
use Rattle.demands.specs.World.{World, Call, allot, read, write, collect, survey, after, answers}
use Rattle.demands.specs.History.{History, set_up, world, onward}

-- What an example begins with: the heap's length, the keep length, and the words that are not 0, each with its address.
pub record Setting : Type 0 where
  pub words : ℕ
  pub keep : ℕ
  pub given : List (ℕ × ℕ)

-- What is seen of a call: the numbers of its answer, and afterwards the words of the map, those of the list up to its count, and the rest: the list behind them, and the stack.
pub record Seen : Type 0 where
  pub answer : List ℕ
  pub map : List ℕ
  pub list : List ℕ
  pub rest : List ℕ

-- A worked example: a setting, the calls made after its set-up, one last call, and what must be seen of that one.
pub record Example : Type 0 where
  pub setting : Setting
  pub before : List Call
  pub last : Call
  pub expected : Seen

-- A heap of h words: zeros, with the given words set.
unfoldable pub laid : ℕ → List (ℕ × ℕ) → List ℕ
laid h [] = replicate h 0
laid h (g ∷ given) = set (laid h given) g.0 g.1

-- A buffer of n words as it is lent, none of them clear.
abbrev pub junk : ℕ → List ℕ
junk n = replicate n 9

-- The set-up of a setting, with buffers of just the needed lengths.
unfoldable pub set_up_of : Setting → History
set_up_of i =
    let h : ℕ = i.words in
    let t : ℕ = i.keep in
    set_up (laid h i.given) t (junk (map_words h)) (junk (stack_words h t)) (junk (list_words h t))

-- What is seen of an example's last call.
unfoldable pub seen : Example → Seen
seen e =
    let w : World = world (onward (set_up_of e.setting) e.before) in
    let next : World = after w e.last in
    let used : ℕ = 2 * next.state.count in
    record { answer = answers w e.last; map = next.map; list = take used next.list; rest = drop used next.list ++ next.stack }

-- A setting, put together.
abbrev pub setting : ℕ → ℕ → List (ℕ × ℕ) → Setting
setting words keep given = record { words = words; keep = keep; given = given }

-- A row of the table: setting, calls before, last call; answer, map, list. The rest is expected to be zeros.
abbrev pub row : Setting → List Call → Call → List ℕ → List ℕ → List ℕ → Example
row i before last answer map list = record { setting = i; before = before; last = last; expected = record { answer = answer; map = map; list = list; rest = replicate (list_words i.words i.keep - length list + stack_words i.words i.keep) 0 } }

-- The setting of P1 to P3: an object at 1 refers to one at 8.
abbrev pub linked : Setting
linked = setting 16 2 ((1, 65539) ∷ (2, 8) ∷ (8, 2) ∷ [])

-- The setting of P4 and P5: three objects fill the heap.
abbrev pub touching : Setting
touching = setting 7 2 ((1, 2) ∷ (3, 2) ∷ (5, 2) ∷ [])

-- The setting of P6 to P8: the object at 2 lies in the words of the one at 1.
abbrev pub nested : Setting
nested = setting 8 2 ((1, 4) ∷ (2, 2) ∷ [])

-- The setting of H1 to H4: no object, and junk in two words.
abbrev pub littered : Setting
littered = setting 8 2 ((2, 9) ∷ (3, 9) ∷ [])

-- The table: a row for each case of each example.
unfoldable pub table : List Example
table =
    -- P1: a collection, and then a survey.
    row linked [] (collect (1 ∷ [])) (0 ∷ 0 ∷ 2 ∷ 5 ∷ 2 ∷ 2 ∷ []) (258 ∷ []) (4 ∷ 4 ∷ 10 ∷ 6 ∷ []) ∷
    row linked (collect (1 ∷ []) ∷ []) survey (0 ∷ 10 ∷ 6 ∷ 400 ∷ []) (258 ∷ []) (4 ∷ 4 ∷ 10 ∷ 6 ∷ []) ∷
    -- P2: then an allot of 3 words.
    row linked (collect (1 ∷ []) ∷ []) (allot 3 0) (0 ∷ 4 ∷ []) (274 ∷ []) (10 ∷ 6 ∷ []) ∷
    -- P3: then an allot of 7 words, and one of 6.
    row linked (collect (1 ∷ []) ∷ allot 3 0 ∷ []) (allot 7 0) (8 ∷ 0 ∷ []) (274 ∷ []) (10 ∷ 6 ∷ []) ∷
    row linked (collect (1 ∷ []) ∷ allot 3 0 ∷ allot 7 0 ∷ []) (allot 6 0) (0 ∷ 10 ∷ []) (1298 ∷ []) [] ∷
    -- P4: the object in the middle is marked first.
    row touching [] (collect (3 ∷ 1 ∷ 5 ∷ [])) (0 ∷ 0 ∷ 3 ∷ 6 ∷ 3 ∷ 2 ∷ []) (42 ∷ []) [] ∷
    -- P5: the objects are marked by address.
    row touching [] (collect (1 ∷ 3 ∷ 5 ∷ [])) (0 ∷ 0 ∷ 3 ∷ 6 ∷ 3 ∷ 1 ∷ []) (42 ∷ []) [] ∷
    -- P6: the outer object is met first.
    row nested [] (collect (1 ∷ 2 ∷ [])) (6 ∷ 2 ∷ 0 ∷ 0 ∷ 0 ∷ 0 ∷ []) (0 ∷ []) [] ∷
    -- P7: the inner object is met first.
    row nested [] (collect (2 ∷ 1 ∷ [])) (6 ∷ 1 ∷ 0 ∷ 0 ∷ 0 ∷ 0 ∷ []) (0 ∷ []) [] ∷
    -- P8: the inner object is met alone.
    row nested [] (collect (2 ∷ [])) (0 ∷ 0 ∷ 1 ∷ 2 ∷ 1 ∷ 1 ∷ []) (4 ∷ []) (4 ∷ 4 ∷ []) ∷
    -- P9: an object ends one word past the heap's end, or just there.
    row (setting 8 2 ((6, 3) ∷ [])) [] (collect (6 ∷ [])) (5 ∷ 6 ∷ 0 ∷ 0 ∷ 0 ∷ 0 ∷ []) (0 ∷ []) [] ∷
    row (setting 8 2 ((6, 2) ∷ [])) [] (collect (6 ∷ [])) (0 ∷ 0 ∷ 1 ∷ 2 ∷ 1 ∷ 1 ∷ []) (64 ∷ []) (1 ∷ 5 ∷ []) ∷
    -- P10: an object has as many references as words, or one fewer.
    row (setting 8 2 ((1, 131074) ∷ [])) [] (collect (1 ∷ [])) (5 ∷ 1 ∷ 0 ∷ 0 ∷ 0 ∷ 0 ∷ []) (0 ∷ []) [] ∷
    row (setting 8 2 ((1, 65538) ∷ [])) [] (collect (1 ∷ [])) (0 ∷ 0 ∷ 1 ∷ 2 ∷ 2 ∷ 1 ∷ []) (2 ∷ []) (3 ∷ 5 ∷ []) ∷
    -- P11: the heap is word 0 alone, with no root, or with one.
    row (setting 1 1 []) [] (collect []) (0 ∷ 0 ∷ 0 ∷ 0 ∷ 0 ∷ 0 ∷ []) (0 ∷ []) [] ∷
    row (setting 1 1 []) [] (collect (1 ∷ [])) (4 ∷ 1 ∷ 0 ∷ 0 ∷ 0 ∷ 0 ∷ []) (0 ∷ []) [] ∷
    -- H1: the fields of a new object are 0, whatever stood there.
    row littered (collect [] ∷ allot 3 1 ∷ []) (read 1 0) (0 ∷ 0 ∷ []) (2 ∷ []) (4 ∷ 4 ∷ []) ∷
    -- H2: its reference field takes no address where no object starts.
    row littered (collect [] ∷ allot 3 1 ∷ []) (write 1 0 5) (11 ∷ []) (2 ∷ []) (4 ∷ 4 ∷ []) ∷
    -- H3: a collection that reaches it leaves it, with what was written.
    row littered (collect [] ∷ allot 3 1 ∷ write 1 1 7 ∷ collect (1 ∷ []) ∷ []) (read 1 1) (0 ∷ 7 ∷ []) (2 ∷ []) (4 ∷ 4 ∷ []) ∷
    -- H4: a collection that does not reach it frees its words.
    row littered (collect [] ∷ allot 3 1 ∷ []) (collect []) (0 ∷ 0 ∷ 0 ∷ 0 ∷ 0 ∷ 1 ∷ []) (0 ∷ []) (1 ∷ 7 ∷ []) ∷
    []
