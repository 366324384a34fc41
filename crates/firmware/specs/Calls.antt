-- The calls as C makes them, each as one function from what is lent to what is left. Where the words lent for a state or an answer are too few, the number is 2 and nothing changes; else all is as the call itself leaves it.
use Rattle.std.specs.Prelude.{ℕ, ◌&&◌, List, [], ◌∷◌, length, leb}
use Rattle.layout.specs.Refusal.{unless}
use Rattle.layout.specs.SetUp.{Prepared, sets_up}
use Rattle.collector.specs.Collect.{Left, collects}
use Rattle.store.specs.Allot.{Allotment, allots}
use Rattle.store.specs.Fields.{Reading, reads, Written, written, writes}
use Rattle.store.specs.Survey.{Surveyed, surveys}
use Rattle.firmware.specs.Lent.{state_room, state_in, state_words, collected_words, figures_words, fronted}

-- What `hx_set_up` answers, and what stands in map, list and state afterwards.
pub record SettingUp : Type 0 where
  pub code : ℕ
  pub map : List ℕ
  pub list : List ℕ
  pub state : List ℕ

-- The number and the buffers, put together.
abbrev pub setting_up : ℕ → List ℕ → List ℕ → List ℕ → SettingUp
setting_up code map list state = record { code = code; map = map; list = list; state = state }

-- Set-up from C.
unfoldable pub hx_sets_up : List ℕ → ℕ → List ℕ → List ℕ → List ℕ → SettingUp
hx_sets_up heap keep map list state =
    let x : Prepared = sets_up heap keep map list in
    unless (leb state_room (length state)) (setting_up 2 map list state)
    (setting_up x.answer.code x.map x.list (fronted (state_words x.answer.state) state))

-- What `hx_collect` answers, and what stands in state, map, stack, list and answer afterwards.
pub record Collecting : Type 0 where
  pub code : ℕ
  pub state : List ℕ
  pub map : List ℕ
  pub stack : List ℕ
  pub list : List ℕ
  pub answer : List ℕ

-- The number and the buffers, put together.
abbrev pub collecting : ℕ → List ℕ → List ℕ → List ℕ → List ℕ → List ℕ → Collecting
collecting code state map stack list answer = record { code = code; state = state; map = map; stack = stack; list = list; answer = answer }

-- A collection from C.
unfoldable pub hx_collects : List ℕ → List ℕ → List ℕ → List ℕ → List ℕ → List ℕ → List ℕ → Collecting
hx_collects state heap roots map stack list answer =
    let x : Left = collects (state_in state) heap roots map stack list in
    unless (leb state_room (length state) && leb 5 (length answer)) (collecting 2 state map stack list answer)
    (collecting x.answer.code (fronted (state_words x.answer.state) state) x.map x.stack x.list (fronted (collected_words x.answer) answer))

-- What `hx_allot` answers, and what stands in state, heap, map, list and answer afterwards.
pub record Allotting : Type 0 where
  pub code : ℕ
  pub state : List ℕ
  pub heap : List ℕ
  pub map : List ℕ
  pub list : List ℕ
  pub answer : List ℕ

-- The number and the buffers, put together.
abbrev pub allotting : ℕ → List ℕ → List ℕ → List ℕ → List ℕ → List ℕ → Allotting
allotting code state heap map list answer = record { code = code; state = state; heap = heap; map = map; list = list; answer = answer }

-- An allot of s words with p references from C.
unfoldable pub hx_allots : List ℕ → List ℕ → List ℕ → List ℕ → ℕ → ℕ → List ℕ → Allotting
hx_allots state heap map list s p answer =
    let x : Allotment = allots (state_in state) heap map list s p in
    unless (leb state_room (length state) && leb 1 (length answer)) (allotting 2 state heap map list answer)
    (allotting x.answer.code (fronted (state_words x.answer.state) state) x.heap x.map x.list (fronted (x.answer.address ∷ []) answer))

-- What a call answers that changes nothing else that is lent, and what stands in the answer afterwards.
pub record Telling : Type 0 where
  pub code : ℕ
  pub answer : List ℕ

-- The number and the answer, put together.
abbrev pub telling : ℕ → List ℕ → Telling
telling code answer = record { code = code; answer = answer }

-- A read of field k of the object at a from C.
unfoldable pub hx_reads : List ℕ → List ℕ → List ℕ → ℕ → ℕ → List ℕ → Telling
hx_reads state heap map a k answer =
    let x : Reading = reads (state_in state) heap map a k in
    unless (leb state_room (length state) && leb 1 (length answer)) (telling 2 answer)
    (telling x.code (fronted (x.value ∷ []) answer))

-- A write of v to field k of the object at a from C.
unfoldable pub hx_writes : List ℕ → List ℕ → List ℕ → ℕ → ℕ → ℕ → Written
hx_writes state heap map a k v = unless (leb state_room (length state)) (written 2 heap) (writes (state_in state) heap map a k v)

-- A survey from C.
unfoldable pub hx_surveys : List ℕ → List ℕ → List ℕ → Telling
hx_surveys state list answer =
    let x : Surveyed = surveys (state_in state) list in
    unless (leb state_room (length state) && leb 3 (length answer)) (telling 2 answer)
    (telling x.code (fronted (figures_words x.figures) answer))
