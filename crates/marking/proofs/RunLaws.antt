-- Laws of moves made one after the other.
use Prim.Native.Nat.{ℕ, zero, suc, ◌+◌}
use Rattle.std.specs.Prelude.{◌≡◌, refl, List}
use Rattle.std.proofs.Math.Path.{sym}
use native.Mathlib.Omega.{arith}
use Rattle.marking.specs.Marking.{Marking, Outcome, going, done, refused, move, run}

-- What is done stays so.
pub run_done : (n : ℕ) (heap : List ℕ) (t : ℕ) (m : Marking) → run n heap t (done m) ≡ done m
unfolding run
run_done zero heap t m = refl
run_done (suc n) heap t m = refl

-- What is refused stays so.
pub run_refused : (n : ℕ) (heap : List ℕ) (t c r : ℕ) → run n heap t (refused c r) ≡ refused c r
unfolding run
run_refused zero heap t c r = refl
run_refused (suc n) heap t c r = refl

module _ (heap : List ℕ) (t : ℕ) where
  -- What every move keeps, any number of moves keeps.
  pub run_keeps : (P : Outcome → Type 0) → ((m : Marking) → P (going m) → P (move heap t m)) → (n : ℕ) (o : Outcome) → P o → P (run n heap t o)
  unfolding run
  run_keeps P moved zero o g = g
  run_keeps P moved (suc n) (going m) g = run_keeps P moved n (move heap t m) (moved m g)
  run_keeps P moved (suc n) (done m) g = g
  run_keeps P moved (suc n) (refused c r) g = g

  -- Moves made one after the other.
  pub run_add : (a b c : ℕ) → a + b ≡ c → (o : Outcome) → run c heap t o ≡ run b heap t (run a heap t o)
  unfolding run
  run_add zero b c e o = let same : c ≡ b = omega arith in rw same
  run_add (suc a) b zero e o = absurd (omega arith)
  run_add (suc a) b (suc c) e (going m) = run_add a b c (omega arith) (move heap t m)
  run_add (suc a) b (suc c) e (done m) = sym (run_done b heap t m)
  run_add (suc a) b (suc c) e (refused n r) = sym (run_refused b heap t n r)
