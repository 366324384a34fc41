-- Set-up, as one function from what it is lent to what it leaves.
use Rattle.std.specs.Prelude.{ℕ, ◌-◌, cond, ◌&&◌, List, [], ◌∷◌, ◌++◌, length, drop, replicate, leb, Result, Ok, Err}
use Rattle.layout.specs.Limits.{within, map_words, list_words}
use Rattle.layout.specs.Intervals.{shown}
use Rattle.layout.specs.Refusal.{unless, number}
use Rattle.layout.specs.declared.Interval.{Interval}
use Rattle.layout.specs.declared.State.{State}
use Rattle.layout.specs.declared.refusal.Refusal.{Refusal}

-- What set-up answers: the refusal's number or 0, and the state.
pub record SetUp : Type 0 where
  pub code : ℕ
  pub state : State

-- What set-up answers, and what stands in map and list afterwards.
pub record Prepared : Type 0 where
  pub answer : SetUp
  pub map : List ℕ
  pub list : List ℕ

-- The answer and the buffers, put together.
abbrev pub prepared : SetUp → List ℕ → List ℕ → Prepared
prepared answer map list = record { answer = answer; map = map; list = list }

-- The list of a heap with no object: all words but word 0, where they have the keep length.
unfoldable pub first_list : ℕ → ℕ → List Interval
first_list h t = cond (leb t (h - 1)) (record { start = 1; size = h - 1 } ∷ []) []

-- A refused set-up has its number and a state of zeros.
abbrev pub set_up_refused : ℕ → SetUp
set_up_refused n = record { code = n; state = record { words = 0; keep = 0; count = 0 } }

-- The answer in these numbers.
abbrev pub set_up_told : Result State Refusal → SetUp
set_up_told (Ok state) = record { code = 0; state = state }
set_up_told (Err refusal) = set_up_refused (number refusal)

-- Set-up of a heap with keep length t.
unfoldable pub sets_up : List ℕ → ℕ → List ℕ → List ℕ → Prepared
sets_up heap t map list =
    let h : ℕ = length heap in
    let refuse : ℕ → Prepared = λ n. prepared (set_up_refused n) map list in
    unless (within h t) (refuse 1)
    (unless (leb (map_words h) (length map) && leb (list_words h t) (length list)) (refuse 2)
    (record {
      answer = record { code = 0; state = record { words = h; keep = t; count = length (first_list h t) } };
      map = replicate (map_words h) 0 ++ drop (map_words h) map;
      list = shown (list_words h t) (first_list h t) ++ drop (list_words h t) list;
    }))
