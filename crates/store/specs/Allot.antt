-- An allot, as one function from what it is lent to what it leaves.
use Rattle.std.specs.Prelude.{ℕ, ◌+◌, ◌-◌, ◌≡◌, Bool, true, ◌&&◌, List, ◌∷◌, ◌++◌, length, take, drop, replicate, leb, ltb, eqb, Option, Some, None, Result, Ok, Err}
use Rattle.words.specs.Header.{header_word}
use Rattle.words.specs.Map.{set_bit}
use Rattle.layout.specs.Limits.{suits, map_words, list_words}
use Rattle.layout.specs.Refusal.{unless, number}
use Rattle.layout.specs.declared.Interval.{Interval}
use Rattle.layout.specs.declared.State.{State}
use Rattle.runs.specs.Lists.{interval_at, without_front}
use Rattle.freelist.specs.Records.{records, valid_list}
use Rattle.freelist.specs.Search.{fitting}
use Rattle.split.specs.Relisted.{relisted}
use Rattle.store.specs.declared.allots.NewObject.{NewObject}
use Rattle.store.specs.declared.allots.Refused.{Refused}

-- What an allot answers: the refusal's number or 0, the new object's address, and the state.
pub record Allotted : Type 0 where
  pub code : ℕ
  pub address : ℕ
  pub state : State

-- The answer, and what stands in heap, map and list afterwards.
pub record Allotment : Type 0 where
  pub answer : Allotted
  pub heap : List ℕ
  pub map : List ℕ
  pub list : List ℕ

-- The answer and the buffers, put together.
abbrev pub allotment : Allotted → List ℕ → List ℕ → List ℕ → Allotment
allotment answer heap map list = record { answer = answer; heap = heap; map = map; list = list }

-- A refused allot has its number, no address, and the state that it got.
abbrev pub allot_refused : ℕ → State → Allotted
allot_refused code state = record { code = code; address = 0; state = state }

-- The answer in these numbers.
abbrev pub allot_told : Result NewObject Refused → Allotted
allot_told (Ok x) = record { code = 0; address = x.address; state = x.state }
allot_told (Err r) = allot_refused (number r.refusal) r.state

-- An object of s words with p references may be asked for, where t is the keep length.
abbrev pub askable : ℕ → ℕ → ℕ → Bool
askable t s p = leb t s && leb s 65535 && ltb p s

-- The number with which an allot is refused for its list, or for what it asks, or 0.
unfoldable pub asked_code : ℕ → ℕ → ℕ → List ℕ → ℕ → ℕ → ℕ
asked_code h t count list s p =
    unless (valid_list h t count list) 3
    (unless (askable t s p) 7
    0)

-- The heap with a new object at a: its header, zeros in the rest of its s words, and every other word as it was.
unfoldable pub with_object : List ℕ → ℕ → ℕ → ℕ → List ℕ
with_object heap a s p = take a heap ++ (header_word s p ∷ replicate (s - 1) 0) ++ drop (a + s) heap

-- What is left where an interval was chosen: its front is the new object; refusal 8 where none was.
unfoldable pub placed : State → List ℕ → List ℕ → List ℕ → ℕ → ℕ → Option ℕ → Allotment
placed state heap map list s p None = allotment (allot_refused 8 state) heap map list
placed state heap map list s p (Some j) =
    let l : List Interval = records state.count list in
    let a : ℕ = (interval_at l j).start in
    let free : List Interval = without_front state.keep s l j in
    record {
      answer = record { code = 0; address = a; state = record { words = state.words; keep = state.keep; count = length free } };
      heap = with_object heap a s p;
      map = set_bit map a;
      list = relisted state.count free list;
    }

-- An allot of s words with p references in the needed parts of map and list.
unfoldable pub allots_in : State → List ℕ → List ℕ → List ℕ → ℕ → ℕ → Allotment
allots_in state heap map list s p =
    let code : ℕ = asked_code state.words state.keep state.count list s p in
    unless (eqb code 0) (allotment (allot_refused code state) heap map list)
    (placed state heap map list s p (fitting s (records state.count list)))

-- An allot: from the state and all that is lent to all that is left, refusals 1 and 2 first.
unfoldable pub allots : State → List ℕ → List ℕ → List ℕ → ℕ → ℕ → Allotment
allots state heap map list s p =
    let m : ℕ = map_words state.words in
    let n : ℕ = list_words state.words state.keep in
    let refuse : ℕ → Allotment = λ code. allotment (allot_refused code state) heap map list in
    let parts : Allotment = allots_in state heap (take m map) (take n list) s p in
    unless (suits state heap) (refuse 1)
    (unless (leb m (length map) && leb n (length list)) (refuse 2)
    (allotment parts.answer parts.heap (parts.map ++ drop m map) (parts.list ++ drop n list)))

-- The needed parts are lent, with a state that suits the heap.
pub record Parts (state : State) (heap map list : List ℕ) : Type 0 where
  pub suit : suits state heap ≡ true
  pub map_size : length map ≡ map_words state.words
  pub list_size : length list ≡ list_words state.words state.keep
