-- The calls from C end as demand 1 says, and their contracts settle their outcomes.
use Rattle.store.specs.Survey.{Surveyed}
use Rattle.std.specs.Prelude.{ℕ, ◌≤◌, ◌≡◌, refl, true, false, List, [], ◌∷◌, length, leb}
use mathlib.Mathlib.Data.Bool.Basic.{eq-false_of_not-eq-true}
use Rattle.std.proofs.Common.{arith, le-leb, leb-true}
use contract.Lifetimes.{Lfts}
use Rattle.layout.specs.SetUp.{Prepared}
use Rattle.collector.specs.Collect.{Left}
use Rattle.store.specs.Allot.{Allotment}
use Rattle.store.specs.Fields.{Reading, Written}
use Rattle.firmware.specs.Lent.{state_room, state_in, state_words, collected_words, figures_words, fronted}
use Rattle.firmware.specs.LentLaws.{Long, both_long}
use Rattle.firmware.specs.Calls.{SettingUp, setting_up, hx_sets_up, Collecting, collecting, hx_collects, Allotting, allotting, hx_allots, Telling, telling, hx_reads, hx_writes, hx_surveys}
use Rattle.demands.proofs.RefusesLaws.{refuses_unless, refused_through, refuses_through}
use Rattle.demands.proofs.Demand1Holds.{set_up_ends, survey_ends, read_ends, write_ends}
use Rattle.demands.proofs.Demand1AllotHolds.{allot_ends}
use Rattle.demands.proofs.Demand1CollectHolds.{collect_ends}
use Rattle.demands.specs.Sameness.{Settles, Loan, MutLoan}
use Rattle.demands.proofs.SamenessHolds.{named}
use Rattle.demands.specs.FromC.{Handed, HxSetUpEnds, HxAllotEnds, HxTellEnds, HxWriteEnds, HxCollectEnds, hx_set_up_contract, hx_set_up_end, hx_collect_contract, hx_collect_end, hx_allot_contract, hx_read_contract, hx_read_end, hx_write_contract, hx_write_end, hx_survey_contract, hx_survey_end}

-- The state in words, stored there again, changes none.
state_same : (state : List ℕ) → state_room ≤ length state → fronted (state_words (state_in state)) state ≡ state
state_same [] long = absurd (omega arith)
state_same (a ∷ []) long = absurd (omega arith)
state_same (a ∷ b ∷ []) long = absurd (omega arith)
state_same (a ∷ b ∷ c ∷ rest) long = refl

module _ {n : ℕ} {state answer : List ℕ} where
  -- The code's test holds where enough words are lent.
  pub handed : Handed n state answer → Long state answer n true
  handed h = rw (le-leb state_room (length state) h.state_room_lem, le-leb n (length answer) h.answer_room_lem)

  -- It fails where too few are.
  unhanded : ¬ Handed n state answer → Long state answer n false
  unhanded few = eq-false_of_not-eq-true λ e. let x = both_long state answer n e in few (record { state_room_lem = x.0; answer_room_lem = x.1 })

-- Set-up from C.
module _ (heap : List ℕ) (t : ℕ) (map list state : List ℕ) where
  pub hx_set_up_ends : HxSetUpEnds map list state (hx_sets_up heap t map list state)
  unfolding hx_sets_up
  hx_set_up_ends = record {
    short = λ few. rw (eq-false_of_not-eq-true λ e. few (leb-true state_room (length state) e));
    refuses = λ long. rw (le-leb state_room (length state) long) (refuses_through (λ (x : Prepared). setting_up x.answer.code x.map x.list (fronted (state_words x.answer.state) state)) (λ y. refl) (λ n. refl) (set_up_ends heap t map list).refuses);
  }

-- An allot from C.
module _ (state heap map list : List ℕ) (s p : ℕ) (answer : List ℕ) where
  -- What it makes of the allot's outcome.
  abbrev allot_from_c : Allotment → Allotting
  allot_from_c x = allotting x.answer.code (fronted (state_words x.answer.state) state) x.heap x.map x.list (fronted (x.answer.address ∷ []) answer)

  pub hx_allot_ends : HxAllotEnds state heap map list answer (hx_allots state heap map list s p answer)
  unfolding hx_allots
  hx_allot_ends = record {
    short = λ few. rw (unhanded few);
    refuses = λ h. rw (handed h) (refuses_through allot_from_c (λ y. refl) (λ n. rw (state_same state h.state_room_lem) refl) (allot_ends (state_in state) heap map list s p).refuses);
  }

-- A read from C.
pub hx_read_ends : (state heap map : List ℕ) (a k : ℕ) (answer : List ℕ) → HxTellEnds 1 (1 ∷ 2 ∷ 9 ∷ 5 ∷ 10 ∷ []) state answer (hx_reads state heap map a k answer)
unfolding hx_reads
hx_read_ends state heap map a k answer = record {
  short = λ few. rw (unhanded few);
  refuses = λ h. rw (handed h) (refuses_through (λ (x : Reading). telling x.code (fronted (x.value ∷ []) answer)) (λ y. refl) (λ n. refl) (read_ends (state_in state) heap map a k));
}

-- A survey from C.
pub hx_survey_ends : (state list answer : List ℕ) → HxTellEnds 3 (1 ∷ 2 ∷ 3 ∷ []) state answer (hx_surveys state list answer)
unfolding hx_surveys
hx_survey_ends state list answer = record {
  short = λ few. rw (unhanded few);
  refuses = λ h. rw (handed h) (refuses_through (λ (x : Surveyed). telling x.code (fronted (figures_words x.figures) answer)) (λ y. refl) (λ n. refl) (survey_ends (state_in state) list));
}

-- A write from C.
pub hx_write_ends : (state heap map : List ℕ) (a k v : ℕ) → HxWriteEnds heap (hx_writes state heap map a k v)
unfolding hx_writes
hx_write_ends state heap map a k v = refuses_unless (λ n. refl) (leb state_room (length state)) 2 (write_ends (state_in state) heap map a k v).refuses

-- A collection from C.
module _ (state heap roots map stack list answer : List ℕ) where
  -- What it makes of the collection's outcome.
  abbrev collect_from_c : Left → Collecting
  collect_from_c x = collecting x.answer.code (fronted (state_words x.answer.state) state) x.map x.stack x.list (fronted (collected_words x.answer) answer)

  pub hx_collect_ends : HxCollectEnds state heap roots map stack list answer (hx_collects state heap roots map stack list answer)
  unfolding hx_collects
  hx_collect_ends =
      let ends = collect_ends (state_in state) heap roots map stack list in
      record {
        short = λ few. rw (unhanded few);
        unlent = λ h not-lent. rw (handed h) (refused_through collect_from_c (λ y. refl) (λ n. rw (state_same state h.state_room_lem) refl) (ends.unlent not-lent));
        fails = λ h lent. rw (handed h) (refuses_through collect_from_c (λ y. refl) (λ n. refl) (ends.fails lent));
      }

module _ (κs : Lfts 4) (heap : Loan) (keep : ℕ) (map list state : MutLoan) where
  -- The contract of `hx_set_up` allows just what its definition gives.
  pub hx_set_up_settled : Settles (hx_set_up_contract κs heap keep map list state) (hx_sets_up heap.now keep map.now list.now state.now)
  hx_set_up_settled = named

  -- It leaves the heap as it was lent.
  pub hx_set_up_unwritten : (x : SettingUp) → (hx_set_up_end κs heap keep map list state x).0 ≡ heap
  hx_set_up_unwritten x = refl

module _ (κs : Lfts 7) (state : MutLoan) (heap roots : Loan) (map stack list answer : MutLoan) where
  -- That of `hx_collect` does.
  pub hx_collect_settled : Settles (hx_collect_contract κs state heap roots map stack list answer) (hx_collects state.now heap.now roots.now map.now stack.now list.now answer.now)
  hx_collect_settled = named

  -- It leaves heap and roots as they were lent.
  pub hx_collect_unwritten : (x : Collecting) → let e = hx_collect_end κs state heap roots map stack list answer x in (e.1.0 ≡ heap) × (e.1.1.0 ≡ roots)
  hx_collect_unwritten x = (refl, refl)

module _ (κs : Lfts 5) (state heap map list : MutLoan) (s p : ℕ) (answer : MutLoan) where
  -- That of `hx_allot` does.
  pub hx_allot_settled : Settles (hx_allot_contract κs state heap map list s p answer) (hx_allots state.now heap.now map.now list.now s p answer.now)
  hx_allot_settled = named

module _ (κs : Lfts 4) (state heap map : Loan) (a k : ℕ) (answer : MutLoan) where
  -- That of `hx_read` does.
  pub hx_read_settled : Settles (hx_read_contract κs state heap map a k answer) (hx_reads state.now heap.now map.now a k answer.now)
  hx_read_settled = named

  -- It leaves state, heap and map as they were lent.
  pub hx_read_unwritten : (x : Telling) → let e = hx_read_end κs state heap map a k answer x in (e.0 ≡ state) × (e.1.0 ≡ heap) × (e.1.1.0 ≡ map)
  hx_read_unwritten x = (refl, refl, refl)

module _ (κs : Lfts 3) (state : Loan) (heap : MutLoan) (map : Loan) (a k v : ℕ) where
  -- That of `hx_write` does.
  pub hx_write_settled : Settles (hx_write_contract κs state heap map a k v) (hx_writes state.now heap.now map.now a k v)
  hx_write_settled = named

  -- It leaves state and map as they were lent.
  pub hx_write_unwritten : (x : Written) → let e = hx_write_end κs state heap map a k v x in (e.0 ≡ state) × (e.1.1.0 ≡ map)
  hx_write_unwritten x = (refl, refl)

module _ (κs : Lfts 3) (state list : Loan) (answer : MutLoan) where
  -- That of `hx_survey` does.
  pub hx_survey_settled : Settles (hx_survey_contract κs state list answer) (hx_surveys state.now list.now answer.now)
  hx_survey_settled = named

  -- It leaves state and list as they were lent.
  pub hx_survey_unwritten : (x : Telling) → let e = hx_survey_end κs state list answer x in (e.0 ≡ state) × (e.1.0 ≡ list)
  hx_survey_unwritten x = (refl, refl)
