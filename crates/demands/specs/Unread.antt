-- What calls do not go by.
use Rattle.std.specs.Prelude.{ℕ, ◌≡◌, List, length, take}
use Rattle.layout.specs.Limits.{map_words, stack_words, list_words}
use Rattle.layout.specs.SetUp.{Prepared}
use Rattle.layout.specs.declared.State.{State}
use Rattle.collector.specs.Collect.{Left, left}
use Rattle.store.specs.Allot.{Allotment}

-- Two buffers have one length, and differ at most past their first n words.
pub record Alike (n : ℕ) (one other : List ℕ) : Type 0 where
  pub long : length one ≡ length other
  pub front : take n one ≡ take n other

-- Two outcomes of set-up have one answer, and their buffers are alike.
pub record SetUpAlike (h t : ℕ) (one other : Prepared) : Type 0 where
  pub answer : one.answer ≡ other.answer
  pub map : Alike (map_words h) one.map other.map
  pub list : Alike (list_words h t) one.list other.list

-- Two outcomes of allot have one answer and one heap, and their other buffers are alike.
pub record AllotAlike (state : State) (one other : Allotment) : Type 0 where
  pub answer : one.answer ≡ other.answer
  pub heap : one.heap ≡ other.heap
  pub map : Alike (map_words state.words) one.map other.map
  pub list : Alike (list_words state.words state.keep) one.list other.list

-- The answer of a collection, with what it leaves in the needed parts.
abbrev pub needed_of : State → Left → Left
needed_of state out =
    let h : ℕ = state.words in
    let t : ℕ = state.keep in
    left out.answer (take (map_words h) out.map) (take (stack_words h t) out.stack) (take (list_words h t) out.list)
