-- A station: what a caller in C keeps from call to call, and how it stands after a history of calls from C.
use Rattle.std.specs.Prelude.{ℕ, ◌≤◌, List, [], ◌∷◌, length, take}
use Rattle.store.specs.Fields.{Written}
use Rattle.firmware.specs.Lent.{state_room, state_in}
use Rattle.firmware.specs.Calls.{SettingUp, hx_sets_up, Collecting, hx_collects, Allotting, hx_allots, Telling, hx_reads, hx_writes, hx_surveys}
use Rattle.demands.specs.World.{World, made, Call, allot, read, write, collect, survey}
use Rattle.demands.specs.History.{History, set_up, ◌then◌}
use Rattle.demands.specs.FromC.{Handed}

-- The words that a station keeps: the state's, the heap, and the buffers.
pub record Station : Type 0 where
  pub state : List ℕ
  pub heap : List ℕ
  pub map : List ℕ
  pub stack : List ℕ
  pub list : List ℕ

-- A station, put together.
abbrev pub station : List ℕ → List ℕ → List ℕ → List ℕ → List ℕ → Station
station state heap map stack list = record { state = state; heap = heap; map = map; stack = stack; list = list }

-- The world that these words stand for.
abbrev pub world_in : Station → World
world_in s = made s.heap (state_in s.state) s.map s.stack s.list

-- What a call from C comes to: its number with the words that it answers, and the station that it leaves.
pub record Happening : Type 0 where
  pub answer : List ℕ
  pub left : Station

-- How many words a call answers besides its number.
abbrev pub answer_words : Call → ℕ
answer_words (allot s p) = 1
answer_words (read a k) = 1
answer_words (write a k v) = 0
answer_words (collect roots) = 5
answer_words survey = 3

-- A call from C on a station, with words lent for its answer.
unfoldable pub happens : Station → Call → List ℕ → Happening
happens z (allot s p) answer = let x : Allotting = hx_allots z.state z.heap z.map z.list s p answer in record { answer = x.code ∷ take 1 x.answer; left = station x.state x.heap x.map z.stack x.list }
happens z (read a k) answer = let x : Telling = hx_reads z.state z.heap z.map a k answer in record { answer = x.code ∷ take 1 x.answer; left = z }
happens z (write a k v) answer = let x : Written = hx_writes z.state z.heap z.map a k v in record { answer = x.code ∷ []; left = station z.state x.heap z.map z.stack z.list }
happens z (collect roots) answer = let x : Collecting = hx_collects z.state z.heap roots z.map z.stack z.list answer in record { answer = x.code ∷ take 5 x.answer; left = station x.state z.heap x.map x.stack x.list }
happens z survey answer = let x : Telling = hx_surveys z.state z.list answer in record { answer = x.code ∷ take 3 x.answer; left = z }

-- The station that set-up from C leaves, with words lent for its state.
unfoldable pub new_station : List ℕ → ℕ → List ℕ → List ℕ → List ℕ → List ℕ → Station
new_station heap t map stack list state = let x : SettingUp = hx_sets_up heap t map list state in station x.state heap x.map stack x.list

-- A station stands so after a history of calls from C, each with enough words for state and answer.
pub data StandsAfter : History → Station → Type 0 where
  at_set_up : (heap : List ℕ) (t : ℕ) (map stack list state : List ℕ) → state_room ≤ length state → StandsAfter (set_up heap t map stack list) (new_station heap t map stack list state)
  at_call : {past : History} {z : Station} → StandsAfter past z → (c : Call) (answer : List ℕ) → Handed (answer_words c) z.state answer → StandsAfter (past then c) (happens z c answer).left
