-- Laws of the stack's words.
use Rattle.std.specs.Prelude.{ℕ, zero, suc, ◌+◌, ◌-◌, ◌≤◌, ◌<◌, ◌≡◌, refl, List, [], ◌∷◌, length, get_or, set}
use Rattle.std.proofs.Common.{ap, add-one, arith, get_or-set_same, get_or-set_other}
use Rattle.machine.specs.Machine.{pile}

-- It has as many objects as it is deep.
pub length-pile : (stack : List ℕ) (n : ℕ) → length (pile stack n) ≡ n
unfolding pile
length-pile stack zero = refl
length-pile stack (suc n) = ap suc (length-pile stack n)

-- A store above it changes nothing in it.
pile_set : (stack : List ℕ) (i v n : ℕ) → n ≤ i → pile (set stack i v) n ≡ pile stack n
unfolding pile
pile_set stack i v zero l = refl
pile_set stack i v (suc n) l = rw (get_or-set_other stack i n v 0 (omega arith), pile_set stack i v n (omega arith)) refl

-- A store on top of it pushes.
pub pile_push : (stack : List ℕ) (v n : ℕ) → n < length stack → pile (set stack n v) (n + 1) ≡ v ∷ pile stack n
unfolding pile
pile_push stack v n l = rw (add-one, pile, get_or-set_same stack n v 0 l, pile_set stack n v n (omega arith)) refl

-- With no object it is empty.
pub pile_none : (stack : List ℕ) (n : ℕ) → n ≤ 0 → pile stack n ≡ []
unfolding pile
pile_none stack zero l = refl
pile_none stack (suc n) l = absurd (omega arith)

-- With some the last pushed is on top.
pub pile_top : (stack : List ℕ) (n : ℕ) → 0 < n → pile stack n ≡ get_or stack (n - 1) 0 ∷ pile stack (n - 1)
unfolding pile
pile_top stack zero l = absurd (omega arith)
pile_top stack (suc n) l = let e : suc n - 1 ≡ n = omega arith in rw e refl
