-- Behind p words a read, a store and a cut go by the place in what follows them.
use Rattle.std.specs.Prelude.{ℕ, zero, suc, ◌+◌, ◌≡◌, List, [], ◌∷◌, ◌++◌, length, get_or, take, drop, set}
use Rattle.std.proofs.Common.{ap, arith, get_or-append-add}
use Rattle.std.proofs.Math.Seq.{take-append-add, drop-append-add}

-- A read.
pub gets : {A : Type 0} (p q : List A) (k i : ℕ) (d : A) → length p + k ≡ i → get_or (p ++ q) i d ≡ get_or q k d
gets p q k i d e = rw (← e) (get_or-append-add p q k d)

-- A store.
pub set_behind : {A : Type 0} (p q : List A) (k i : ℕ) (x : A) → length p + k ≡ i → set (p ++ q) i x ≡ p ++ set q k x
set_behind [] q k i x e = let h : i ≡ k = omega arith in rw h
set_behind (y ∷ p) q k zero x e = absurd (omega arith)
set_behind (y ∷ p) q k (suc i) x e = ap (λ (t : List _). y ∷ t) (set_behind p q k i x (omega arith))

-- What stands before a place.
pub takes : {A : Type 0} (p q : List A) (k i : ℕ) → length p + k ≡ i → take i (p ++ q) ≡ p ++ take k q
takes p q k i e = rw (← e) (take-append-add p q k)

-- What stands from it on.
pub drops : {A : Type 0} (p q : List A) (k i : ℕ) → length p + k ≡ i → drop i (p ++ q) ≡ drop k q
drops p q k i e = rw (← e) (drop-append-add p q k)
