-- The calls from C: how each ends, and what its contract asks and allows.
use Rattle.std.specs.Prelude.{ℕ, ◌≤◌, ◌≡◌, List, [], ◌∷◌, length, get_or}
use contract.Lifetimes.{Lfts}
use denote.Triple.Clauses.{AtExit, at_exit}
use borrow.Fn.Kinds.{Dens, ended_of}
use Rattle.layout.specs.Limits.{map_words, stack_words, list_words}
use Rattle.layout.specs.declared.State.{State}
use Rattle.store.specs.Fields.{Written, written}
use Rattle.firmware.specs.Lent.{state_room, state_in, fronted}
use Rattle.firmware.specs.Calls.{SettingUp, setting_up, Collecting, collecting, Allotting, allotting, Telling, telling}
use Rattle.firmware.proofs.hx_set_up as hx_set_up
use Rattle.firmware.proofs.hx_collect as hx_collect
use Rattle.firmware.proofs.hx_allot as hx_allot
use Rattle.firmware.proofs.hx_read as hx_read
use Rattle.firmware.proofs.hx_write as hx_write
use Rattle.firmware.proofs.hx_survey as hx_survey
use Rattle.demands.specs.Lent.{Lent}
use Rattle.demands.specs.Demand1.{front_cleared, Refused, Refuses}
use Rattle.demands.specs.Sameness.{Contract, Loan, MutLoan}

-- The words lent for a state and for an answer of n words are enough.
pub record Handed (n : ℕ) (state answer : List ℕ) : Type 0 where
  pub state_room_lem : state_room ≤ length state
  pub answer_room_lem : n ≤ length answer

-- How set-up from C ends: with too few words for the state nothing changes; else a refusal clears these words and changes no other.
pub record HxSetUpEnds (map list state : List ℕ) (r : SettingUp) : Type 0 where
  pub short : ¬ (state_room ≤ length state) → r ≡ setting_up 2 map list state
  pub refuses : state_room ≤ length state → Refuses (λ (x : SettingUp). x.code) (λ n. setting_up n map list (front_cleared state_room state)) (1 ∷ 2 ∷ []) r

-- How an allot from C ends: with too few words for state or answer nothing changes; else a refusal clears the answer and changes nothing else.
pub record HxAllotEnds (state heap map list answer : List ℕ) (r : Allotting) : Type 0 where
  pub short : ¬ Handed 1 state answer → r ≡ allotting 2 state heap map list answer
  pub refuses : Handed 1 state answer → Refuses (λ (x : Allotting). x.code) (λ n. allotting n state heap map list (front_cleared 1 answer)) (1 ∷ 2 ∷ 3 ∷ 7 ∷ 8 ∷ []) r

-- How a read or a survey from C ends, where n words are answered and these are its numbers: the same.
pub record HxTellEnds (n : ℕ) (numbers state answer : List ℕ) (r : Telling) : Type 0 where
  pub short : ¬ Handed n state answer → r ≡ telling 2 answer
  pub refuses : Handed n state answer → Refuses (λ (x : Telling). x.code) (λ m. telling m (front_cleared n answer)) numbers r

-- How a write from C ends: a refusal leaves the heap as it came.
abbrev pub HxWriteEnds : List ℕ → Written → Type 0
HxWriteEnds heap r = Refuses (λ (x : Written). x.code) (λ n. written n heap) (2 ∷ 1 ∷ 2 ∷ 9 ∷ 5 ∷ 10 ∷ 11 ∷ []) r

module _ (state map stack list answer : List ℕ) where
  -- What is left of a collection from C that was refused for the reference `place`: a count of 0, the needed parts of map, stack and list clear, and the answer names the reference alone.
  abbrev pub hx_marking_refused : ℕ → ℕ → Collecting
  hx_marking_refused place n =
      let s : State = state_in state in
      let h : ℕ = s.words in
      let t : ℕ = s.keep in
      collecting n (fronted (h ∷ t ∷ 0 ∷ []) state) (front_cleared (map_words h) map) (front_cleared (stack_words h t) stack) (front_cleared (list_words h t) list) (fronted (place ∷ 0 ∷ 0 ∷ 0 ∷ 0 ∷ []) answer)

-- How a collection from C ends.
pub record HxCollectEnds (state heap roots map stack list answer : List ℕ) (r : Collecting) : Type 0 where
  -- With too few words for state or answer nothing changes.
  pub short : ¬ Handed 5 state answer → r ≡ collecting 2 state map stack list answer
  -- Where it is refused for what is lent, the answer is cleared and nothing else changes.
  pub unlent : Handed 5 state answer → ¬ Lent (state_in state) heap roots map stack list → Refused (λ (x : Collecting). x.code) (λ n. collecting n state map stack list (front_cleared 5 answer)) (1 ∷ 2 ∷ []) r
  -- Else it succeeds, or it is refused for the reference that the answer's first word names.
  pub fails : Handed 5 state answer → Lent (state_in state) heap roots map stack list → Refuses (λ (x : Collecting). x.code) (hx_marking_refused state map stack list answer (get_or r.answer 0 0)) (4 ∷ 5 ∷ 6 ∷ []) r

module _ (κs : Lfts 4) (heap : Loan) (keep : ℕ) (map list state : MutLoan) where
  -- What `hx_set_up` is handed.
  abbrev hx_set_up_begin : Dens κs hx_set_up.Kinds.ps
  hx_set_up_begin = (heap, (keep, (map, (list, (state, tt)))))

  -- The same at exit, where map, list and state have the words of the outcome.
  abbrev pub hx_set_up_end : SettingUp → AtExit (ended_of 4 hx_set_up.Kinds.ps hx_set_up.Kinds.r) κs
  hx_set_up_end x = at_exit (ended_of 4 hx_set_up.Kinds.ps hx_set_up.Kinds.r) κs hx_set_up_begin (tt, (tt, (x.map, (x.list, (x.state, tt)))))

  -- Its contract.
  abbrev pub hx_set_up_contract : Contract SettingUp
  hx_set_up_contract = record { asks = hx_set_up.Reads.Asked κs hx_set_up_begin; allows = λ x. hx_set_up.Reads.Learnt κs hx_set_up_begin x.code (hx_set_up_end x) }

module _ (κs : Lfts 7) (state : MutLoan) (heap roots : Loan) (map stack list answer : MutLoan) where
  -- What `hx_collect` is handed.
  abbrev hx_collect_begin : Dens κs hx_collect.Kinds.ps
  hx_collect_begin = (state, (heap, (roots, (map, (stack, (list, (answer, tt)))))))

  -- The same at exit, where state, map, stack, list and answer have the words of the outcome.
  abbrev pub hx_collect_end : Collecting → AtExit (ended_of 7 hx_collect.Kinds.ps hx_collect.Kinds.r) κs
  hx_collect_end x = at_exit (ended_of 7 hx_collect.Kinds.ps hx_collect.Kinds.r) κs hx_collect_begin (x.state, (tt, (tt, (x.map, (x.stack, (x.list, (x.answer, tt)))))))

  -- Its contract.
  abbrev pub hx_collect_contract : Contract Collecting
  hx_collect_contract = record { asks = hx_collect.Reads.Asked κs hx_collect_begin; allows = λ x. hx_collect.Reads.Learnt κs hx_collect_begin x.code (hx_collect_end x) }

module _ (κs : Lfts 5) (state heap map list : MutLoan) (s p : ℕ) (answer : MutLoan) where
  -- What `hx_allot` is handed.
  abbrev hx_allot_begin : Dens κs hx_allot.Kinds.ps
  hx_allot_begin = (state, (heap, (map, (list, (s, (p, (answer, tt)))))))

  -- Its contract: at exit state, heap, map, list and answer have the words of the outcome.
  abbrev pub hx_allot_contract : Contract Allotting
  hx_allot_contract = record {
    asks = hx_allot.Reads.Asked κs hx_allot_begin;
    allows = λ x. hx_allot.Reads.Learnt κs hx_allot_begin x.code (at_exit (ended_of 5 hx_allot.Kinds.ps hx_allot.Kinds.r) κs hx_allot_begin (x.state, (x.heap, (x.map, (x.list, (tt, (tt, (x.answer, tt))))))));
  }

module _ (κs : Lfts 4) (state heap map : Loan) (a k : ℕ) (answer : MutLoan) where
  -- What `hx_read` is handed.
  abbrev hx_read_begin : Dens κs hx_read.Kinds.ps
  hx_read_begin = (state, (heap, (map, (a, (k, (answer, tt))))))

  -- The same at exit, where the answer has the words of the outcome.
  abbrev pub hx_read_end : Telling → AtExit (ended_of 4 hx_read.Kinds.ps hx_read.Kinds.r) κs
  hx_read_end x = at_exit (ended_of 4 hx_read.Kinds.ps hx_read.Kinds.r) κs hx_read_begin (tt, (tt, (tt, (tt, (tt, (x.answer, tt))))))

  -- Its contract.
  abbrev pub hx_read_contract : Contract Telling
  hx_read_contract = record { asks = hx_read.Reads.Asked κs hx_read_begin; allows = λ x. hx_read.Reads.Learnt κs hx_read_begin x.code (hx_read_end x) }

module _ (κs : Lfts 3) (state : Loan) (heap : MutLoan) (map : Loan) (a k v : ℕ) where
  -- What `hx_write` is handed.
  abbrev hx_write_begin : Dens κs hx_write.Kinds.ps
  hx_write_begin = (state, (heap, (map, (a, (k, (v, tt))))))

  -- The same at exit, where the heap has the words of the outcome.
  abbrev pub hx_write_end : Written → AtExit (ended_of 3 hx_write.Kinds.ps hx_write.Kinds.r) κs
  hx_write_end x = at_exit (ended_of 3 hx_write.Kinds.ps hx_write.Kinds.r) κs hx_write_begin (tt, (x.heap, (tt, (tt, (tt, (tt, tt))))))

  -- Its contract.
  abbrev pub hx_write_contract : Contract Written
  hx_write_contract = record { asks = hx_write.Reads.Asked κs hx_write_begin; allows = λ x. hx_write.Reads.Learnt κs hx_write_begin x.code (hx_write_end x) }

module _ (κs : Lfts 3) (state list : Loan) (answer : MutLoan) where
  -- What `hx_survey` is handed.
  abbrev hx_survey_begin : Dens κs hx_survey.Kinds.ps
  hx_survey_begin = (state, (list, (answer, tt)))

  -- The same at exit, where the answer has the words of the outcome.
  abbrev pub hx_survey_end : Telling → AtExit (ended_of 3 hx_survey.Kinds.ps hx_survey.Kinds.r) κs
  hx_survey_end x = at_exit (ended_of 3 hx_survey.Kinds.ps hx_survey.Kinds.r) κs hx_survey_begin (tt, (tt, (x.answer, tt)))

  -- Its contract.
  abbrev pub hx_survey_contract : Contract Telling
  hx_survey_contract = record { asks = hx_survey.Reads.Asked κs hx_survey_begin; allows = λ x. hx_survey.Reads.Learnt κs hx_survey_begin x.code (hx_survey_end x) }
