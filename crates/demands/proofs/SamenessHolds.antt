-- The contract of each public function settles its outcome: it is that of the function's definition, whatever is lent.
use Prim.{Unit}
use Rattle.std.specs.Prelude.{ℕ, ◌≡◌, refl, ◌↔◌}
use Rattle.std.proofs.Common.{sym, ap, ◌∙◌}
use contract.Lifetimes.{Lfts}
use Rattle.layout.specs.Limits.{rooms_of}
use Rattle.layout.specs.LimitsLaws.{map_zero}
use Rattle.layout.specs.Refusal.{code_told}
use Rattle.layout.specs.SetUp.{Prepared, prepared, set_up_told, sets_up}
use Rattle.layout.specs.declared.State.{State}
use Rattle.collector.specs.Collect.{Left, left, collect_told, collects}
use Rattle.store.specs.Allot.{Allotment, allotment, allot_told, allots}
use Rattle.store.specs.Fields.{Reading, Written, written, read_told, reads, writes}
use Rattle.store.specs.Survey.{Surveyed, survey_told, surveys}
use Rattle.report.specs.Answer.{Output, reports}
use Rattle.demands.specs.Lent.{Lent}
use Rattle.demands.specs.Demand1.{SetUpEnds, AllotEnds, ReadEnds, WriteEnds, SurveyEnds, CollectEnds}
use Rattle.demands.proofs.Demand1Holds.{set_up_ends, survey_ends, read_ends, write_ends}
use Rattle.demands.proofs.Demand1AllotHolds.{allot_ends}
use Rattle.demands.proofs.Demand1CollectHolds.{collect_ends}
use Rattle.layout.specs.SetUpLaws.{set_up_one}
use Rattle.collector.proofs.CollectLaws.{collect_one}
use borrow.Fn.Kinds.{ended_of}
use Rattle.layout.proofs.State.set_up as set_up
use Rattle.collector.proofs.collect as collect
use Rattle.store.proofs.allot as allot
use Rattle.store.proofs.read as read
use Rattle.store.proofs.write as write
use Rattle.store.proofs.survey as survey
use Rattle.demands.proofs.ToldHolds.{allot_one, read_one, code_one, survey_one, set_up_tells, allot_tells, read_tells, write_tells, survey_tells, collect_tells}
use Rattle.demands.specs.Demand2.{Demand2}
use Rattle.demands.proofs.Demand2Holds.{demand_2}
use Rattle.demands.specs.Sameness.{Same, Contract, Settles, Loan, MutLoan, rooms_contract, hx_map_contract, hx_stack_contract, hx_list_contract, set_up_contract, set_up_end, collect_contract, collect_end, allot_contract, read_contract, read_end, write_contract, write_end, survey_contract, survey_end, answer_contract, answer_end}

-- A contract whose demands are met, and that allows just one outcome, settles it.
settles : {A : Type 0} {contract : Contract A} {outcome : A} → contract.asks → ((x : A) → contract.allows x ↔ (x ≡ outcome)) → Settles contract outcome
settles free just = record { free = free; just = just; same = λ x y p q. (just x).0 p ∙ sym ((just y).0 q) }

-- A contract that asks nothing and names its outcome settles it.
pub named : {A : Type 0} {outcome : A} → Settles (record { asks = Unit; allows = λ x. x ≡ outcome }) outcome
named = settles tt (λ x. (λ e. e, λ e. e))

-- So does one that asks nothing and names the outcome that an answer is told by, where the outcome is told of some answer.
pub told_of : {A B R : Type 0} (tell : R → B) (part : A → B) (put : B → A → A) {outcome : A} → ((x : A) → put (part x) x ≡ x) → (r : R) × (tell r ≡ part outcome)
    → Settles (record { asks = Unit; allows = λ x. (r : R) × (tell r ≡ part x) × (put (tell r) x ≡ outcome) }) outcome
told_of tell part put {outcome} back tells =
    settles tt
    (λ x. (λ (r, e, l). sym (back x) ∙ ap (λ b. put b x) (sym e) ∙ l, λ q. (tells.0, tells.1 ∙ ap part (sym q), ap (λ b. put b x) (tells.1 ∙ ap part (sym q)) ∙ back x ∙ q)))

-- What holds of the settled outcome holds of every outcome that the contract allows.
pub carries : {A : Type 0} {contract : Contract A} {outcome : A} → Settles contract outcome → (P : A → Type 0) → P outcome → (x : A) → contract.allows x → P x
carries s P held x allowed = rw ((s.just x).0 allowed) held

module _ (κs : Lfts 0) (words keep : ℕ) where
  -- The contract of `Rooms::of` allows just the room figures.
  pub rooms_settled : Settles (rooms_contract κs words keep) (rooms_of words keep)
  rooms_settled = named

  -- That of `hx_map_words` allows just the map's.
  pub hx_map_settled : Settles (hx_map_contract κs words keep) (rooms_of words keep).map
  hx_map_settled = settles tt (λ x. (λ e. e.0, λ e. (e, λ z. map_zero words keep refl (sym e ∙ z))))

  -- That of `hx_stack_words` allows just the stack's.
  pub hx_stack_settled : Settles (hx_stack_contract κs words keep) (rooms_of words keep).stack
  hx_stack_settled = named

  -- That of `hx_list_words` allows just the list's.
  pub hx_list_settled : Settles (hx_list_contract κs words keep) (rooms_of words keep).list
  hx_list_settled = named

module _ (κs : Lfts 3) (heap : Loan) (keep : ℕ) (map list : MutLoan) where
  -- The contract of set-up allows just what its definition gives.
  pub set_up_settled : Settles (set_up_contract κs heap keep map list) (sets_up heap.now keep map.now list.now)
  set_up_settled = told_of set_up_told (λ (p : Prepared). p.answer) (λ a p. prepared a p.map p.list) (λ x. refl) (set_up_tells heap.now keep map.now list.now)

  -- Demand 1 holds of every outcome that it allows.
  pub set_up_demand_1 : (x : Prepared) → (set_up_contract κs heap keep map list).allows x → SetUpEnds heap.now keep map.now list.now x
  set_up_demand_1 = carries set_up_settled (SetUpEnds heap.now keep map.now list.now) (set_up_ends heap.now keep map.now list.now)

  -- It leaves the heap as it was lent.
  pub set_up_unwritten : (x : Prepared) → (set_up_end κs heap keep map list x).0 ≡ heap
  set_up_unwritten x = refl

module _ (κs : Lfts 5) (state : State) (heap roots : Loan) (map stack list : MutLoan) where
  -- The contract of collect allows just what its definition gives.
  pub collect_settled : Settles (collect_contract κs state heap roots map stack list) (collects state heap.now roots.now map.now stack.now list.now)
  collect_settled = told_of collect_told (λ (l : Left). l.answer) (λ a l. left a l.map l.stack l.list) (λ x. refl) (collect_tells state heap.now roots.now map.now stack.now list.now)

  -- Demand 1 holds of every outcome that it allows.
  pub collect_demand_1 : (x : Left) → (collect_contract κs state heap roots map stack list).allows x → CollectEnds state heap.now roots.now map.now stack.now list.now x
  collect_demand_1 = carries collect_settled (CollectEnds state heap.now roots.now map.now stack.now list.now) (collect_ends state heap.now roots.now map.now stack.now list.now)

  -- Demand 2 holds of every outcome that it allows within the limits.
  pub collect_demand_2 : Lent state heap.now roots.now map.now stack.now list.now → (x : Left) → (collect_contract κs state heap roots map stack list).allows x → Demand2 heap.now state.keep roots.now x
  collect_demand_2 lent = carries collect_settled (Demand2 heap.now state.keep roots.now) (demand_2 state heap.now roots.now map.now stack.now list.now lent)

  -- It leaves heap and roots as they were lent.
  pub collect_unwritten : (x : Left) → let e = collect_end κs state heap roots map stack list x in (e.1.0 ≡ heap) × (e.1.1.0 ≡ roots)
  collect_unwritten x = (refl, refl)

module _ (κs : Lfts 3) (state : State) (heap map list : MutLoan) (s p : ℕ) where
  -- The contract of allot allows just what its definition gives.
  pub allot_settled : Settles (allot_contract κs state heap map list s p) (allots state heap.now map.now list.now s p)
  allot_settled = told_of allot_told (λ (a : Allotment). a.answer) (λ b a. allotment b a.heap a.map a.list) (λ x. refl) (allot_tells state heap.now map.now list.now s p)

  -- Demand 1 holds of every outcome that it allows.
  pub allot_demand_1 : (x : Allotment) → (allot_contract κs state heap map list s p).allows x → AllotEnds state heap.now map.now list.now x
  allot_demand_1 = carries allot_settled (AllotEnds state heap.now map.now list.now) (allot_ends state heap.now map.now list.now s p)

module _ (κs : Lfts 2) (state : State) (heap map : Loan) (a k : ℕ) where
  -- The contract of read allows just what its definition gives.
  pub read_settled : Settles (read_contract κs state heap map a k) (reads state heap.now map.now a k)
  read_settled = told_of read_told (λ (r : Reading). r) (λ b r. b) (λ x. refl) (read_tells state heap.now map.now a k)

  -- Demand 1 holds of every outcome that it allows.
  pub read_demand_1 : (x : Reading) → (read_contract κs state heap map a k).allows x → ReadEnds x
  read_demand_1 = carries read_settled ReadEnds (read_ends state heap.now map.now a k)

  -- It leaves heap and map as they were lent.
  pub read_unwritten : let e = read_end κs state heap map a k in (e.1.0 ≡ heap) × (e.1.1.0 ≡ map)
  read_unwritten = (refl, refl)

module _ (κs : Lfts 2) (state : State) (heap : MutLoan) (map : Loan) (a k v : ℕ) where
  -- The contract of write allows just what its definition gives.
  pub write_settled : Settles (write_contract κs state heap map a k v) (writes state heap.now map.now a k v)
  write_settled = told_of code_told (λ (w : Written). w.code) (λ b w. written b w.heap) (λ x. refl) (write_tells state heap.now map.now a k v)

  -- Demand 1 holds of every outcome that it allows.
  pub write_demand_1 : (x : Written) → (write_contract κs state heap map a k v).allows x → WriteEnds heap.now x
  write_demand_1 = carries write_settled (WriteEnds heap.now) (write_ends state heap.now map.now a k v)

  -- It leaves the map as it was lent.
  pub write_unwritten : (x : Written) → (write_end κs state heap map a k v x).1.1.0 ≡ map
  write_unwritten x = refl

module _ (κs : Lfts 1) (state : State) (list : Loan) where
  -- The contract of survey allows just what its definition gives.
  pub survey_settled : Settles (survey_contract κs state list) (surveys state list.now)
  survey_settled = told_of survey_told (λ (s : Surveyed). s) (λ b s. b) (λ x. refl) (survey_tells state list.now)

  -- Demand 1 holds of every outcome that it allows.
  pub survey_demand_1 : (x : Surveyed) → (survey_contract κs state list).allows x → SurveyEnds x
  survey_demand_1 = carries survey_settled SurveyEnds (survey_ends state list.now)

  -- It leaves the list as it was lent.
  pub survey_unwritten : (survey_end κs state list).1.0 ≡ list
  survey_unwritten = refl

module _ (κs : Lfts 2) (text : Loan) (out : MutLoan) where
  -- The contract of the text program's `answer` allows just what its definition gives.
  pub answer_settled : Settles (answer_contract κs text out) (reports text.now out.now)
  answer_settled = named

  -- It leaves the text as it was lent.
  pub answer_unwritten : (x : Output) → (answer_end κs text out x).0 ≡ text
  answer_unwritten x = refl

-- The answers themselves, before they are told in numbers: two that a contract allows for one input are equal, with all that they leave.

-- Those of set-up,
pub set_up_same : Same (ended_of _ set_up.Kinds.ps set_up.Kinds.r) set_up.Reads.Learnt
set_up_same κs a x y p q i = let e = p ∙ sym q in (set_up_one x.0 y.0 (ap (λ (r : Prepared). r.answer) e) i, (tt, (tt, ((e i).map, ((e i).list, tt)))))

-- of collect,
pub collect_same : Same (ended_of _ collect.Kinds.ps collect.Kinds.r) collect.Reads.Learnt
collect_same κs a x y p q i = let e = p ∙ sym q in (collect_one x.0 y.0 (ap (λ (r : Left). r.answer) e) i, (tt, (tt, (tt, ((e i).map, ((e i).stack, ((e i).list, tt)))))))

-- of allot,
pub allot_same : Same (ended_of _ allot.Kinds.ps allot.Kinds.r) allot.Reads.Learnt
allot_same κs a x y p q i = let e = p ∙ sym q in (allot_one x.0 y.0 (ap (λ (r : Allotment). r.answer) e) i, (tt, ((e i).heap, ((e i).map, ((e i).list, (tt, (tt, tt)))))))

-- of read,
pub read_same : Same (ended_of _ read.Kinds.ps read.Kinds.r) read.Reads.Learnt
read_same κs a x y p q i = (read_one x.0 y.0 (p ∙ sym q) i, x.1)

-- of write,
pub write_same : Same (ended_of _ write.Kinds.ps write.Kinds.r) write.Reads.Learnt
write_same κs a x y p q i = let e = p ∙ sym q in (code_one x.0 y.0 (ap (λ (r : Written). r.code) e) i, (tt, ((e i).heap, (tt, (tt, (tt, (tt, tt)))))))

-- and of survey.
pub survey_same : Same (ended_of _ survey.Kinds.ps survey.Kinds.r) survey.Reads.Learnt
survey_same κs a x y p q i = (survey_one x.0 y.0 (p ∙ sym q) i, x.1)
