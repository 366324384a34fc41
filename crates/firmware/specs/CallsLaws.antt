-- The two ways out of each call from C.
use Rattle.std.specs.Prelude.{ℕ, ◌≤◌, ◌<◌, ◌≡◌, true, false, List, [], ◌∷◌, length}
use Rattle.std.proofs.Math.Path.{refl}
use Rattle.std.proofs.Common.{le-leb}
use Rattle.std.proofs.lemmas.Bool.{lt-leb}
use Rattle.layout.specs.SetUp.{SetUp, prepared, sets_up}
use Rattle.layout.specs.declared.State.{State}
use Rattle.collector.specs.Collect.{Collected, left, collects}
use Rattle.store.specs.Allot.{Allotted, allotment, allots}
use Rattle.store.specs.Fields.{Reading, reads, written, writes}
use Rattle.store.specs.Survey.{Surveyed, surveys}
use Rattle.firmware.specs.Lent.{state_room, state_in, state_words, collected_words, figures_words, fronted}
use Rattle.firmware.specs.LentLaws.{Long}
use Rattle.firmware.specs.Calls.{setting_up, hx_sets_up, collecting, hx_collects, allotting, hx_allots, telling, hx_reads, hx_writes, hx_surveys}

-- Set-up.
module _ (heap : List ℕ) (t : ℕ) (map list state : List ℕ) where
  pub set_up_short : length state < state_room → setting_up 2 map list state ≡ hx_sets_up heap t map list state
  unfolding hx_sets_up
  set_up_short short = rw (lt-leb state_room (length state) short)

  pub set_up_crosses : state_room ≤ length state → {fresh : SetUp} {map' list' state' : List ℕ} → prepared fresh map' list' ≡ sets_up heap t map list → state' ≡ fronted (state_words fresh.state) state
      → setting_up fresh.code map' list' state' ≡ hx_sets_up heap t map list state
  unfolding hx_sets_up
  set_up_crosses long e q = rw (le-leb state_room (length state) long, q, ← e) refl

-- A collection.
module _ (state heap roots map stack list answer : List ℕ) where
  pub collect_short : Long state answer 5 false → collecting 2 state map stack list answer ≡ hx_collects state heap roots map stack list answer
  unfolding hx_collects
  collect_short short = rw short

  pub collect_crosses : Long state answer 5 true → {was : State} → was ≡ state_in state → {found : Collected} {map' stack' list' state' answer' : List ℕ} → left found map' stack' list' ≡ collects was heap roots map stack list → state' ≡ fronted (state_words found.state) state → answer' ≡ fronted (collected_words found) answer
      → collecting found.code state' map' stack' list' answer' ≡ hx_collects state heap roots map stack list answer
  unfolding hx_collects
  collect_crosses long w e s a = rw (long, s, a, ← w, ← e) refl

-- An allot.
module _ (state heap map list : List ℕ) (s p : ℕ) (answer : List ℕ) where
  pub allot_short : Long state answer 1 false → allotting 2 state heap map list answer ≡ hx_allots state heap map list s p answer
  unfolding hx_allots
  allot_short short = rw short

  pub allot_crosses : Long state answer 1 true → {was : State} → was ≡ state_in state → {made : Allotted} {heap' map' list' state' answer' : List ℕ} → allotment made heap' map' list' ≡ allots was heap map list s p → state' ≡ fronted (state_words made.state) state → answer' ≡ fronted (made.address ∷ []) answer
      → allotting made.code state' heap' map' list' answer' ≡ hx_allots state heap map list s p answer
  unfolding hx_allots
  allot_crosses long w e q a = rw (long, q, a, ← w, ← e) refl

-- A read.
module _ (state heap map : List ℕ) (a k : ℕ) (answer : List ℕ) where
  pub read_short : Long state answer 1 false → telling 2 answer ≡ hx_reads state heap map a k answer
  unfolding hx_reads
  read_short short = rw short

  pub read_crosses : Long state answer 1 true → {was : State} → was ≡ state_in state → {got : Reading} {answer' : List ℕ} → got ≡ reads was heap map a k → answer' ≡ fronted (got.value ∷ []) answer → telling got.code answer' ≡ hx_reads state heap map a k answer
  unfolding hx_reads
  read_crosses long w e q = rw (long, q, ← w, ← e) refl

-- A write.
module _ (state heap map : List ℕ) (a k v : ℕ) where
  pub write_short : length state < state_room → written 2 heap ≡ hx_writes state heap map a k v
  unfolding hx_writes
  write_short short = rw (lt-leb state_room (length state) short)

  pub write_crosses : state_room ≤ length state → {was : State} → was ≡ state_in state → {code : ℕ} {heap' : List ℕ} → written code heap' ≡ writes was heap map a k v → written code heap' ≡ hx_writes state heap map a k v
  unfolding hx_writes
  write_crosses long w e = rw (le-leb state_room (length state) long, e, w)

-- A survey.
module _ (state list answer : List ℕ) where
  pub survey_short : Long state answer 3 false → telling 2 answer ≡ hx_surveys state list answer
  unfolding hx_surveys
  survey_short short = rw short

  pub survey_crosses : Long state answer 3 true → {was : State} → was ≡ state_in state → {seen : Surveyed} {answer' : List ℕ} → seen ≡ surveys was list → answer' ≡ fronted (figures_words seen.figures) answer → telling seen.code answer' ≡ hx_surveys state list answer
  unfolding hx_surveys
  survey_crosses long w e q = rw (long, q, ← w, ← e) refl
