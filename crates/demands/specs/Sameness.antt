-- What the contract of each public function asks and allows, at any arguments: `Asked` and `Learnt` are the toolchain's own, read off the source.
use Rattle.store.specs.Survey.{Surveyed, survey_told}
use Rattle.std.specs.Prelude.{ℕ, ◌≡◌, ◌↔◌, List, Result}
use contract.Lifetimes.{Lfts}
use Rattle.std.specs.Borrow.{Bor, MutBor}
use denote.Triple.Entry.{Args, Res}
use denote.Triple.Clauses.{Ended, Lasts, AtExit, at_exit}
use borrow.Fn.Kinds.{Dens, ended_of}
use Rattle.layout.specs.Refusal.{code_told}
use Rattle.layout.specs.SetUp.{Prepared, set_up_told}
use Rattle.layout.specs.declared.refusal.Refusal.{Refusal}
use Rattle.freelist.specs.declared.figures.Figures.{Figures}
use Rattle.layout.specs.declared.Rooms.{Rooms}
use Rattle.layout.specs.declared.State.{State}
use Rattle.layout.proofs.Rooms.of as rooms
use Rattle.layout.proofs.State.set_up as set_up
use Rattle.firmware.proofs.hx_map_words as hx_map
use Rattle.firmware.proofs.hx_stack_words as hx_stack
use Rattle.firmware.proofs.hx_list_words as hx_list
use Rattle.collector.specs.Collect.{Left, collect_told}
use Rattle.collector.specs.declared.Collection.{Collection}
use Rattle.collector.specs.declared.Refused.{Refused}
use Rattle.collector.proofs.collect as collect
use Rattle.store.specs.Allot.{Allotment, allot_told}
use Rattle.store.specs.declared.allots.NewObject.{NewObject}
use Rattle.store.specs.declared.allots.Refused.{Refused as AllotRefused}
use Rattle.store.specs.Fields.{Reading, Written, read_told}
use Rattle.store.proofs.allot as allot
use Rattle.store.proofs.read as read
use Rattle.store.proofs.write as write
use Rattle.store.proofs.survey as survey
use Rattle.report.specs.Answer.{Output}
use Rattle.report.proofs.answer as answer

-- A contract at given arguments: what it asks of the caller, and which outcomes it allows.
pub record Contract (A : Type 0) : Type 1 where
  pub asks : Type 0
  pub allows : A → Type 0

-- A contract settles the outcome: what it asks holds, it allows just that outcome, and any two that it allows are equal.
pub record Settles {A : Type 0} (contract : Contract A) (outcome : A) : Type 0 where
  pub free : contract.asks
  pub just : (x : A) → contract.allows x ↔ (x ≡ outcome)
  pub same : (x y : A) → contract.allows x → contract.allows y → x ≡ y

-- A buffer as it is lent to a call to be read, with the words that it has `now`.
abbrev pub Loan : Type 0
Loan = Bor (List ℕ)

-- A buffer as it is lent to a call to be changed, with the words that it has `now`.
abbrev pub MutLoan : Type 0
MutLoan = MutBor (List ℕ)

module _ (κs : Lfts 0) (words keep : ℕ) where
  -- The contract of `Rooms::of`.
  abbrev pub rooms_contract : Contract Rooms
  rooms_contract = record { asks = rooms.Reads.Asked κs (words, (keep, tt)); allows = λ x. rooms.Reads.Learnt κs (words, (keep, tt)) x (words, (keep, tt)) }

  -- The contract of `hx_map_words`.
  abbrev pub hx_map_contract : Contract ℕ
  hx_map_contract = record { asks = hx_map.Reads.Asked κs (words, (keep, tt)); allows = λ x. hx_map.Reads.Learnt κs (words, (keep, tt)) x (words, (keep, tt)) }

  -- The contract of `hx_stack_words`.
  abbrev pub hx_stack_contract : Contract ℕ
  hx_stack_contract = record { asks = hx_stack.Reads.Asked κs (words, (keep, tt)); allows = λ x. hx_stack.Reads.Learnt κs (words, (keep, tt)) x (words, (keep, tt)) }

  -- The contract of `hx_list_words`.
  abbrev pub hx_list_contract : Contract ℕ
  hx_list_contract = record { asks = hx_list.Reads.Asked κs (words, (keep, tt)); allows = λ x. hx_list.Reads.Learnt κs (words, (keep, tt)) x (words, (keep, tt)) }

module _ (κs : Lfts 3) (heap : Loan) (keep : ℕ) (map list : MutLoan) where
  -- What set-up is handed.
  abbrev set_up_begin : Dens κs set_up.Kinds.ps
  set_up_begin = (heap, (keep, (map, (list, tt))))

  -- The same at exit, where map and list have the words of the outcome.
  abbrev pub set_up_end : Prepared → AtExit (ended_of 3 set_up.Kinds.ps set_up.Kinds.r) κs
  set_up_end x = at_exit (ended_of 3 set_up.Kinds.ps set_up.Kinds.r) κs set_up_begin (tt, (tt, (x.map, (x.list, tt))))

  -- The contract of set-up.
  abbrev pub set_up_contract : Contract Prepared
  set_up_contract = record { asks = set_up.Reads.Asked κs set_up_begin; allows = λ x. (r : Result State Refusal) × (set_up_told r ≡ x.answer) × set_up.Reads.Learnt κs set_up_begin r (set_up_end x) }

module _ (κs : Lfts 5) (state : State) (heap roots : Loan) (map stack list : MutLoan) where
  -- What collect is handed.
  abbrev collect_begin : Dens κs collect.Kinds.ps
  collect_begin = (state, (heap, (roots, (map, (stack, (list, tt))))))

  -- The same at exit, where map, stack and list have the words of the outcome.
  abbrev pub collect_end : Left → AtExit (ended_of 5 collect.Kinds.ps collect.Kinds.r) κs
  collect_end x = at_exit (ended_of 5 collect.Kinds.ps collect.Kinds.r) κs collect_begin (tt, (tt, (tt, (x.map, (x.stack, (x.list, tt))))))

  -- The contract of collect.
  abbrev pub collect_contract : Contract Left
  collect_contract = record { asks = collect.Reads.Asked κs collect_begin; allows = λ x. (r : Result Collection Refused) × (collect_told r ≡ x.answer) × collect.Reads.Learnt κs collect_begin r (collect_end x) }

module _ (κs : Lfts 3) (state : State) (heap map list : MutLoan) (s p : ℕ) where
  -- What allot is handed.
  abbrev allot_begin : Dens κs allot.Kinds.ps
  allot_begin = (state, (heap, (map, (list, (s, (p, tt))))))

  -- The same at exit, where heap, map and list have the words of the outcome.
  abbrev allot_end : Allotment → AtExit (ended_of 3 allot.Kinds.ps allot.Kinds.r) κs
  allot_end x = at_exit (ended_of 3 allot.Kinds.ps allot.Kinds.r) κs allot_begin (tt, (x.heap, (x.map, (x.list, (tt, (tt, tt))))))

  -- The contract of allot.
  abbrev pub allot_contract : Contract Allotment
  allot_contract = record { asks = allot.Reads.Asked κs allot_begin; allows = λ x. (r : Result NewObject AllotRefused) × (allot_told r ≡ x.answer) × allot.Reads.Learnt κs allot_begin r (allot_end x) }

module _ (κs : Lfts 2) (state : State) (heap map : Loan) (a k : ℕ) where
  -- What read is handed.
  abbrev read_begin : Dens κs read.Kinds.ps
  read_begin = (state, (heap, (map, (a, (k, tt)))))

  -- The same at exit.
  abbrev pub read_end : AtExit (ended_of 2 read.Kinds.ps read.Kinds.r) κs
  read_end = at_exit (ended_of 2 read.Kinds.ps read.Kinds.r) κs read_begin (tt, (tt, (tt, (tt, (tt, tt)))))

  -- The contract of read.
  abbrev pub read_contract : Contract Reading
  read_contract = record { asks = read.Reads.Asked κs read_begin; allows = λ x. (r : Result ℕ Refusal) × (read_told r ≡ x) × read.Reads.Learnt κs read_begin r read_end }

module _ (κs : Lfts 2) (state : State) (heap : MutLoan) (map : Loan) (a k v : ℕ) where
  -- What write is handed.
  abbrev write_begin : Dens κs write.Kinds.ps
  write_begin = (state, (heap, (map, (a, (k, (v, tt))))))

  -- The same at exit, where the heap has the words of the outcome.
  abbrev pub write_end : Written → AtExit (ended_of 2 write.Kinds.ps write.Kinds.r) κs
  write_end x = at_exit (ended_of 2 write.Kinds.ps write.Kinds.r) κs write_begin (tt, (x.heap, (tt, (tt, (tt, (tt, tt))))))

  -- The contract of write.
  abbrev pub write_contract : Contract Written
  write_contract = record { asks = write.Reads.Asked κs write_begin; allows = λ x. (r : Result Unit Refusal) × (code_told r ≡ x.code) × write.Reads.Learnt κs write_begin r (write_end x) }

module _ (κs : Lfts 1) (state : State) (list : Loan) where
  -- What survey is handed.
  abbrev survey_begin : Dens κs survey.Kinds.ps
  survey_begin = (state, (list, tt))

  -- The same at exit.
  abbrev pub survey_end : AtExit (ended_of 1 survey.Kinds.ps survey.Kinds.r) κs
  survey_end = at_exit (ended_of 1 survey.Kinds.ps survey.Kinds.r) κs survey_begin (tt, (tt, tt))

  -- The contract of survey.
  abbrev pub survey_contract : Contract Surveyed
  survey_contract = record { asks = survey.Reads.Asked κs survey_begin; allows = λ x. (r : Result Figures Refusal) × (survey_told r ≡ x) × survey.Reads.Learnt κs survey_begin r survey_end }

module _ (κs : Lfts 2) (text : Loan) (out : MutLoan) where
  -- What the text program's `answer` is handed.
  abbrev answer_begin : Dens κs answer.Kinds.ps
  answer_begin = (text, (out, tt))

  -- The same at exit, where the output buffer has the bytes of the outcome.
  abbrev pub answer_end : Output → AtExit (ended_of 2 answer.Kinds.ps answer.Kinds.r) κs
  answer_end x = at_exit (ended_of 2 answer.Kinds.ps answer.Kinds.r) κs answer_begin (tt, (x.out, tt))

  -- The contract of `answer`.
  abbrev pub answer_contract : Contract Output
  answer_contract = record { asks = answer.Reads.Asked κs answer_begin; allows = λ x. answer.Reads.Learnt κs answer_begin x.count (answer_end x) }

-- The contracts of functions that only this project's own crates call, all at once: `learnt` is what such a contract allows, by its arguments, the result, and the parameters at exit.
module _ (T : Ended) (learnt : (κs : Lfts T.signature.lifetimes) → Args T.signature κs → Res T.signature κs → AtExit T κs → Type 0) where
  -- Two outcomes that a contract allows for one input are equal: the results, and the last words of each buffer lent to be changed.
  abbrev pub Same : Type 0
  Same = (κs : Lfts T.signature.lifetimes) (a : Args T.signature κs) (x y : Res T.signature κs × Lasts T κs a) → learnt κs a x.0 (at_exit T κs a x.1) → learnt κs a y.0 (at_exit T κs a y.1) → x ≡ y
