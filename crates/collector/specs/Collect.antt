-- A collection, as one function from what it is lent to what it leaves.
use Rattle.std.specs.Prelude.{ℕ, ◌≤◌, ◌≡◌, true, ◌&&◌, List, ◌++◌, length, drop, replicate, leb, Result, Ok, Err}
use Rattle.layout.specs.Intervals.{shown}
use Rattle.layout.specs.Limits.{max_roots, within, suits, map_words, stack_words, list_words}
use Rattle.layout.specs.Refusal.{unless, number}
use Rattle.layout.specs.declared.State.{State}
use Rattle.runs.specs.Runs.{free_list}
use Rattle.marking.specs.Marking.{Marking, Outcome, going, done, refused, collection}
use Rattle.collector.specs.declared.Collection.{Collection}
use Rattle.collector.specs.declared.Refused.{Refused}

-- What a collection answers: the refusal's number or 0, and the reference that it names; objects marked, live words, references read, peak; and the state.
pub record Collected : Type 0 where
  pub code : ℕ
  pub place : ℕ
  pub objects : ℕ
  pub live : ℕ
  pub references : ℕ
  pub peak : ℕ
  pub state : State

-- The answer, and what stands in map, stack and list afterwards.
pub record Left : Type 0 where
  pub answer : Collected
  pub map : List ℕ
  pub stack : List ℕ
  pub list : List ℕ

-- The answer and the buffers, put together.
abbrev pub left : Collected → List ℕ → List ℕ → List ℕ → Left
left answer map stack list = record { answer = answer; map = map; stack = stack; list = list }

-- A refused collection has its number, the reference that it names, a state, and 0 for every count.
abbrev pub collect_refused : ℕ → ℕ → State → Collected
collect_refused code place state = record { code = code; place = place; objects = 0; live = 0; references = 0; peak = 0; state = state }

-- The answer in these numbers.
abbrev pub collect_told : Result Collection Refused → Collected
collect_told (Ok c) = record { code = 0; place = 0; objects = c.objects; live = c.live; references = c.references; peak = c.peak; state = c.state }
collect_told (Err r) = collect_refused (number r.fault.refusal) r.fault.place r.state

-- The needed parts after marking is done: the map, a clear stack, and the free list with its count.
abbrev pub settled : List ℕ → ℕ → Marking → Left
settled heap t m =
    let h : ℕ = length heap in
    let free : List _ = free_list t heap m.map in
    record {
      answer = record { code = 0; place = 0; objects = m.objects; live = m.live; references = m.references; peak = m.peak; state = record { words = h; keep = t; count = length free } };
      map = m.map;
      stack = replicate (stack_words h t) 0;
      list = shown (list_words h t) free;
    }

-- The needed parts after a reference was refused: all clear.
abbrev pub cleared : List ℕ → ℕ → ℕ → ℕ → Left
cleared heap t code place =
    let h : ℕ = length heap in
    record {
      answer = collect_refused code place (record { words = h; keep = t; count = 0 });
      map = replicate (map_words h) 0;
      stack = replicate (stack_words h t) 0;
      list = replicate (list_words h t) 0;
    }

-- The needed parts after a collection; the first case is never met, since every collection ends.
abbrev pub settles : List ℕ → ℕ → Outcome → Left
settles heap t (going m) = settled heap t m
settles heap t (done m) = settled heap t m
settles heap t (refused code place) = cleared heap t code place

-- A collection in the needed parts.
unfoldable pub collects_in : List ℕ → ℕ → List ℕ → Left
collects_in heap t roots = settles heap t (collection heap t roots)

-- A collection: from the state and all that is lent to all that is left, refusals 1 and 2 first.
unfoldable pub collects : State → List ℕ → List ℕ → List ℕ → List ℕ → List ℕ → Left
collects state heap roots map stack list =
    let h : ℕ = state.words in
    let t : ℕ = state.keep in
    let refuse : ℕ → Left = λ n. left (collect_refused n 0 state) map stack list in
    let parts : Left = collects_in heap t roots in
    unless (suits state heap && leb (length roots) max_roots) (refuse 1)
    (unless (leb (map_words h) (length map) && leb (stack_words h t) (length stack) && leb (list_words h t) (length list)) (refuse 2)
    (record {
      answer = parts.answer;
      map = parts.map ++ drop (map_words h) map;
      stack = parts.stack ++ drop (stack_words h t) stack;
      list = parts.list ++ drop (list_words h t) list;
    }))

-- The needed parts are lent, within the limits.
pub record Parts (heap : List ℕ) (t : ℕ) (roots map stack list : List ℕ) : Type 0 where
  pub limits : within (length heap) t ≡ true
  pub few : length roots ≤ max_roots
  pub map_size : length map ≡ map_words (length heap)
  pub stack_size : length stack ≡ stack_words (length heap) t
  pub list_size : length list ≡ list_words (length heap) t
