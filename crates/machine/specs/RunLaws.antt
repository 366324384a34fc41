-- The run to the end: what is left to run from here gives what the whole collection gives.
use Prim.Native.Nat.{ℕ, zero, suc, ◌+◌, ◌<◌}
use Rattle.std.specs.Prelude.{◌≡◌, List, Bool, true, false, Result, Ok, Err}
use Rattle.std.proofs.Math.Path.{refl}
use Rattle.std.proofs.Common.{sym, ap, ◌∙◌, arith}
use Rattle.std.proofs.Math.ListN.{length}
use Rattle.layout.specs.Limits.{map_words}
use Rattle.runs.proofs.FreeListLaws.{list_first}
use Rattle.marking.specs.Marking.{Outcome, going, move, run, begin, collection}
use Rattle.marking.specs.Invariant.{ahead, Still}
use Rattle.marking.proofs.InvariantLaws.{Less, move_less, begin_holds, begin_ahead}
use Rattle.marking.proofs.RunLaws.{run_done, run_refused}
use Rattle.machine.specs.Machine.{pile, marking, Lent, lent, outcome_of, Ready, Moved, Begun, Ran}
use Rattle.machine.specs.declared.Progress.{Progress}
use Rattle.machine.specs.declared.Fault.{Fault}
use Rattle.machine.specs.declared.Machine.{Machine}
use Rattle.layout.specs.Refusal.{number}

-- What a machine reads stays where it is lent the same.
module _ (m m' : Machine) (e : lent m' ≡ lent m) where
  same_heap : m'.heap.now ≡ m.heap.now
  same_heap = ap (λ (l : Lent). l.heap) e

  same_keep : m'.keep ≡ m.keep
  same_keep = ap (λ (l : Lent). l.keep) e

  same_roots : m'.roots.now ≡ m.roots.now
  same_roots = ap (λ (l : Lent). l.roots) e

-- So many moves are left to make, and they are enough to end what the machine began.
pub record Turn (began m : Machine) : Type 0 where
  pub ready : Ready m
  pub lent : lent m ≡ lent began
  pub left : ℕ
  pub enough : ahead m.heap.now (marking m) < left
  pub goes : run left m.heap.now m.keep (going (marking m)) ≡ collection began.heap.now began.keep began.roots.now

-- The numbers at the beginning, with the first list's count.
abbrev pub fresh : ℕ → Progress
fresh count = record { next = 0; at = 0; left = 0; depth = 0; count = count; objects = 0; live = 0; references = 0; peak = count }

module _ (m : Machine) {count : ℕ} (b : Begun m.heap.now m.keep m.roots.now m.map.now m.stack.now m.list.now count) (e : m.progress ≡ fresh count) where
  -- They stand for the machine before the first root.
  begins : marking m ≡ begin m.heap.now m.keep m.roots.now
  unfolding pile begin
  begins = rw (e, b.map_clear, b.count_first, list_first m.keep m.heap.now (map_words (length m.heap.now))) refl

  -- The first turn.
  pub turn_first : Turn m m
  unfolding collection
  turn_first = record {
    ready = record {
      fit = record {
        limits = b.limits;
        stack_size = b.stack_size;
        in_hand = rw e (omega arith);
        shows = rw (e, b.map_clear) (record { count = rw (list_first m.keep m.heap.now (map_words (length m.heap.now))) b.count_first; words = rw (list_first m.keep m.heap.now (map_words (length m.heap.now))) b.list_first });
      };
      few = b.few;
      invariant = rw begins (begin_holds m.heap.now m.keep b.limits.keeps m.roots.now);
    };
    lent = refl;
    left = suc (length m.roots.now + length m.heap.now);
    enough = rw begins (omega (arith, begin_ahead m.heap.now m.keep b.limits.keeps m.roots.now));
    goes = rw begins refl;
  }

module _ {began m : Machine} (x : Turn began m) where
  -- What the whole collection gives.
  abbrev whole : Outcome
  whole = collection began.heap.now began.keep began.roots.now

  -- One move fewer is left behind the next.
  onward : (n : ℕ) × (suc n ≡ x.left) × (run n m.heap.now m.keep (move m.heap.now m.keep (marking m)) ≡ whole)
  unfolding run
  onward = split x.left refl x.enough x.goes
    where
      split : (k : ℕ) → k ≡ x.left → ahead m.heap.now (marking m) < k → run k m.heap.now m.keep (going (marking m)) ≡ whole → (n : ℕ) × (suc n ≡ x.left) × (run n m.heap.now m.keep (move m.heap.now m.keep (marking m)) ≡ whole)
      split zero e l g = absurd (omega arith)
      split (suc n) e l g = (n, e, g)

  module _ {m' : Machine} {o : Result Bool Fault} (y : Moved m m' o) where
    -- The rest of the run from what the move came to.
    rest : run onward.0 m.heap.now m.keep (outcome_of m' o) ≡ whole
    rest = rw y.same onward.2

    kept : Still (Less m.heap.now m.keep x.ready.fit.limits.keeps m.roots.now (ahead m.heap.now (marking m))) (outcome_of m' o)
    kept = rw y.same (move_less m.heap.now m.keep x.ready.fit.limits.keeps m.roots.now (marking m) x.ready.invariant)

    -- The machine is lent what it was lent at the beginning.
    back : lent m' ≡ lent began
    back = y.lent ∙ x.lent

    module _ (e : o ≡ Ok true) where
      -- Where it goes on less is ahead.
      pub turn_less : ahead m'.heap.now (marking m') < ahead m.heap.now (marking m)
      turn_less = rw (same_heap m m' y.lent) ((rw (e, same_heap m m' y.lent) at kept).1)

      -- The next turn.
      pub turn_next : Turn began m'
      turn_next = record {
        ready = record { fit = rw e at y.fit; few = rw (same_roots m m' y.lent) x.ready.few; invariant = rw (same_heap m m' y.lent, same_keep m m' y.lent, same_roots m m' y.lent) ((rw (e, same_heap m m' y.lent, same_roots m m' y.lent) at kept).0) };
        lent = back;
        left = onward.0;
        enough = omega (arith, turn_less, x.enough, onward.1);
        goes = rw (same_heap m m' y.lent, same_keep m m' y.lent) (rw (e, same_heap m m' y.lent) at rest);
      }

    -- It writes to the buffers that it wrote to at the beginning.
    pub same_buffers : (m'.map.ghost_name ≡ began.map.ghost_name) × (m'.stack.ghost_name ≡ began.stack.ghost_name) × (m'.list.ghost_name ≡ began.list.ghost_name)
    same_buffers = (ap (λ (l : Lent). l.map) back, ap (λ (l : Lent). l.stack) back, ap (λ (l : Lent). l.list) back)

    -- What is left in them is what the machine has there.
    module _ {map' stack' list' : List ℕ} (em : map' ≡ m'.map.now) (es : stack' ≡ m'.stack.now) (el : list' ≡ m'.list.now) where
      -- Where it is done so is the run.
      pub ran_done : o ≡ Ok false → Ran began.heap.now began.keep began.roots.now map' stack' list' (Ok m'.progress)
      ran_done e = record {
        same = rw (em, es, same_heap began m' back, same_roots began m' back) refl ∙ sym (run_done onward.0 m.heap.now m.keep (marking m')) ∙ (rw e at rest);
        fit = rw (em, es, el) (rw (same_heap began m' back, same_keep began m' back) at (rw e at y.fit));
      }

      -- Where it is refused so is the run.
      pub ran_refused : {f : Fault} → o ≡ Err f → Ran began.heap.now began.keep began.roots.now map' stack' list' (Err f)
      ran_refused {f} e = record { same = sym (run_refused onward.0 m.heap.now m.keep (number f.refusal) f.place) ∙ (rw e at rest); fit = tt }
