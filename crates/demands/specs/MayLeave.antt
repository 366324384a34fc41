-- Histories by the contracts alone: which effects the contract of each call allows.
use Rattle.store.specs.Survey.{Surveyed}
use Rattle.std.specs.Prelude.{ℕ, List}
use contract.Lifetimes.{Lfts}
use Rattle.layout.specs.SetUp.{Prepared}
use Rattle.layout.specs.declared.State.{State}
use Rattle.collector.specs.Collect.{Left}
use Rattle.store.specs.Allot.{Allotment}
use Rattle.store.specs.Fields.{Reading, Written}
use Rattle.demands.specs.World.{World, made, begun, Call, allot, read, write, collect, survey, Effect, of_allot, of_read, of_write, of_collect, of_survey}
use Rattle.demands.specs.History.{History, set_up, ◌then◌}
use Rattle.demands.specs.Sameness.{Loan, MutLoan, set_up_contract, collect_contract, allot_contract, read_contract, write_contract, survey_contract}

-- A call on a world may have an effect: lent the world's words, its contract allows what has that effect.
pub data MayHave : World → Call → Effect → Type 0 where
  by_allot : (κs : Lfts 3) (state : State) (heap map list : MutLoan) (stack : List ℕ) (s p : ℕ) (x : Allotment) → (allot_contract κs state heap map list s p).allows x
      → MayHave (made heap.now state map.now stack list.now) (allot s p) (of_allot (made heap.now state map.now stack list.now) x)
  by_read : (κs : Lfts 2) (state : State) (heap map : Loan) (stack list : List ℕ) (a k : ℕ) (x : Reading) → (read_contract κs state heap map a k).allows x
      → MayHave (made heap.now state map.now stack list) (read a k) (of_read (made heap.now state map.now stack list) x)
  by_write : (κs : Lfts 2) (state : State) (heap : MutLoan) (map : Loan) (stack list : List ℕ) (a k v : ℕ) (x : Written) → (write_contract κs state heap map a k v).allows x
      → MayHave (made heap.now state map.now stack list) (write a k v) (of_write (made heap.now state map.now stack list) x)
  by_collect : (κs : Lfts 5) (state : State) (heap roots : Loan) (map stack list : MutLoan) (x : Left) → (collect_contract κs state heap roots map stack list).allows x
      → MayHave (made heap.now state map.now stack.now list.now) (collect roots.now) (of_collect (made heap.now state map.now stack.now list.now) x)
  by_survey : (κs : Lfts 1) (state : State) (list : Loan) (heap map stack : List ℕ) (x : Surveyed) → (survey_contract κs state list).allows x
      → MayHave (made heap state map stack list.now) survey (of_survey (made heap state map stack list.now) x)

-- A history may leave a world: the contract of set-up allows what makes its first one, and each call may have an effect that leaves the next.
pub data MayLeave : History → World → Type 0 where
  at_set_up : (κs : Lfts 3) (heap : Loan) (t : ℕ) (map list : MutLoan) (stack : List ℕ) (x : Prepared) → (set_up_contract κs heap t map list).allows x
      → MayLeave (set_up heap.now t map.now stack list.now) (begun heap.now stack x)
  at_call : {past : History} {w : World} {c : Call} {e : Effect} → MayLeave past w → MayHave w c e → MayLeave (past then c) e.left
