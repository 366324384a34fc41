-- Demand 1: how a call refuses, and what it leaves of the buffers.
use Rattle.std.specs.Prelude.{ℕ, ◌≡◌, ◌≢◌, ◌↔◌, length, drop, replicate}
use mathlib.Core.List.{List, [], ◌∷◌, ◌++◌, Memᴰ}
use Rattle.layout.specs.Limits.{map_words, stack_words, list_words}
use Rattle.layout.specs.declared.State.{State}
use Rattle.layout.specs.SetUp.{Prepared, prepared, set_up_refused}
use Rattle.collector.specs.Collect.{Left, left, collect_refused}
use Rattle.store.specs.Allot.{Allotment, allotment, allot_refused}
use Rattle.store.specs.Fields.{Reading, Written, written}
use Rattle.store.specs.Survey.{Surveyed, survey_refused}
use Rattle.demands.specs.Lent.{Bounded, Lent}

-- A buffer keeps its length, and its words past the first n.
pub record Kept (n : ℕ) (before after : List ℕ) : Type 0 where
  pub long : length after ≡ length before
  pub past : drop n after ≡ drop n before

-- A buffer with its first n words cleared.
abbrev pub front_cleared : ℕ → List ℕ → List ℕ
front_cleared n buffer = replicate n 0 ++ drop n buffer

-- An outcome is a refusal: its number is one of these, and the whole outcome is what a refusal with that number leaves.
pub record Refused {A : Type 0} (code : A → ℕ) (refuse : ℕ → A) (numbers : List ℕ) (outcome : A) : Type 0 where
  pub number : Memᴰ (code outcome) numbers
  pub whole : outcome ≡ refuse (code outcome)

-- An outcome with any number but 0 is a refusal.
abbrev pub Refuses : {A : Type 0} → (A → ℕ) → (ℕ → A) → List ℕ → A → Type 0
Refuses code refuse numbers outcome = code outcome ≢ 0 → Refused code refuse numbers outcome

-- How set-up ends.
pub record SetUpEnds (heap : List ℕ) (t : ℕ) (map list : List ℕ) (r : Prepared) : Type 0 where
  -- It answers, or it refuses with 1 or 2 and a state of zeros, and map and list are as they came.
  pub refuses : Refuses (λ (x : Prepared). x.answer.code) (λ n. prepared (set_up_refused n) map list) (1 ∷ 2 ∷ []) r
  -- Map and list keep their length, and their words past the needed parts.
  pub keeps_map : Kept (map_words (length heap)) map r.map
  pub keeps_list : Kept (list_words (length heap) t) list r.list

-- How an allot ends.
pub record AllotEnds (state : State) (heap map list : List ℕ) (r : Allotment) : Type 0 where
  -- It answers, or it refuses with one of these numbers, and state, heap, map and list are as they came.
  pub refuses : Refuses (λ (x : Allotment). x.answer.code) (λ n. allotment (allot_refused n state) heap map list) (1 ∷ 2 ∷ 3 ∷ 7 ∷ 8 ∷ []) r
  -- The heap keeps its length, and map and list theirs and their words past the needed parts.
  pub keeps_heap : length r.heap ≡ length heap
  pub keeps_map : Kept (map_words state.words) map r.map
  pub keeps_list : Kept (list_words state.words state.keep) list r.list

-- A read ends with an answer, or with one of these numbers and the value 0.
abbrev pub ReadEnds : Reading → Type 0
ReadEnds r = Refuses (λ (x : Reading). x.code) (λ n. record { code = n; value = 0 }) (1 ∷ 2 ∷ 9 ∷ 5 ∷ 10 ∷ []) r

-- How a write ends.
pub record WriteEnds (heap : List ℕ) (r : Written) : Type 0 where
  -- It stores the value, or it refuses with one of these numbers, and the heap is as it came.
  pub refuses : Refuses (λ (x : Written). x.code) (λ n. written n heap) (1 ∷ 2 ∷ 9 ∷ 5 ∷ 10 ∷ 11 ∷ []) r
  -- The heap keeps its length.
  pub keeps_heap : length r.heap ≡ length heap

-- A survey ends with an answer, or with one of these numbers and 0 for each figure.
abbrev pub SurveyEnds : Surveyed → Type 0
SurveyEnds r = Refuses (λ (x : Surveyed). x.code) survey_refused (1 ∷ 2 ∷ 3 ∷ []) r

-- The number of a collection's outcome.
abbrev pub code_of : Left → ℕ
code_of r = r.answer.code

module _ (state : State) (map stack list : List ℕ) where
  -- What is left of a collection that was refused for what was lent to it: everything as it came.
  abbrev pub lent_refused : ℕ → Left
  lent_refused n = left (collect_refused n 0 state) map stack list

  -- What is left of a collection that was refused for the reference `place`: a count of 0, and the needed parts of map, stack and list clear.
  abbrev pub marking_refused : ℕ → ℕ → Left
  marking_refused place n =
      let h : ℕ = state.words in
      let t : ℕ = state.keep in
      left (collect_refused n place (record { words = h; keep = t; count = 0 })) (front_cleared (map_words h) map) (front_cleared (stack_words h t) stack) (front_cleared (list_words h t) list)

-- A collection that succeeds names no reference, hands back the state with a count of its own, and leaves the needed part of the stack clear.
pub record Succeeded (state : State) (stack : List ℕ) (r : Left) : Type 0 where
  pub nowhere : r.answer.place ≡ 0
  pub words : r.answer.state.words ≡ state.words
  pub keep : r.answer.state.keep ≡ state.keep
  pub stack_clear : r.stack ≡ front_cleared (stack_words state.words state.keep) stack

-- How a collection ends.
pub record CollectEnds (state : State) (heap roots map stack list : List ℕ) (r : Left) : Type 0 where
  -- It is refused with 1 exactly out of the limits.
  pub one : (code_of r ≡ 1) ↔ ¬ Bounded state heap roots
  -- It is refused with 2 exactly where it is within them and a buffer is too short.
  pub two : (code_of r ≡ 2) ↔ Bounded state heap roots × ¬ Lent state heap roots map stack list
  -- In both cases state, map, stack and list are as they came.
  pub unlent : ¬ Lent state heap roots map stack list → Refused code_of (lent_refused state map stack list) (1 ∷ 2 ∷ []) r
  -- Else it succeeds, or it is refused with 4, 5 or 6, and the needed parts are clear.
  pub fails : Lent state heap roots map stack list → Refuses code_of (marking_refused state map stack list r.answer.place) (4 ∷ 5 ∷ 6 ∷ []) r
  -- So it has one of these numbers, or 0.
  pub numbers : code_of r ≢ 0 → Memᴰ (code_of r) (1 ∷ 2 ∷ 4 ∷ 5 ∷ 6 ∷ [])
  -- What a success answers and leaves besides what it has found.
  pub succeeds : code_of r ≡ 0 → Succeeded state stack r
  -- Map, stack and list keep their length, and their words past the needed parts.
  pub keeps_map : Kept (map_words state.words) map r.map
  pub keeps_stack : Kept (stack_words state.words state.keep) stack r.stack
  pub keeps_list : Kept (list_words state.words state.keep) list r.list
