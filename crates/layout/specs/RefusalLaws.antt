-- Laws of how a call refuses.
use Rattle.std.specs.Prelude.{ℕ, ◌-◌, ◌<◌, ◌≡◌, refl, Bool, true, false, cond, List, [], ◌∷◌, slice_index_or}
use Rattle.std.proofs.Common.{arith, sym, ap, ◌∙◌}
use Rattle.layout.specs.Refusal.{unless, number}
use Rattle.layout.specs.declared.refusal.Refusal.{Refusal}
use Rattle.layout.specs.declared.refusal.Refusal.TheVariants as is

-- A choice has a property where each side has it if taken.
pub by_test : {A : Type 0} (P : A → Type 0) (test : Bool) {x y : A} → (test ≡ true → P x) → (test ≡ false → P y) → P (cond test x y)
by_test P true p q = p refl
by_test P false p q = q refl

-- Where no number but 0 comes out, the test held, and 0 came from what was next.
pub no_refusal : {A : Type 0} (code : A → ℕ) (test : Bool) (refusal next : A) → 0 < code refusal → code (unless test refusal next) ≡ 0 → (test ≡ true) × (code next ≡ 0)
no_refusal code true refusal next some e = (refl, e)
no_refusal code false refusal next some e = absurd (omega arith)

-- A refusal's number is not 0.
pub number_some : (r : Refusal) → 0 < number r
number_some r = elim r as (λ (k : Refusal). 0 < number k) [
  | is.Limits ↦ omega arith
  | is.Room ↦ omega arith
  | is.List ↦ omega arith
  | is.Address ↦ omega arith
  | is.Header ↦ omega arith
  | is.Overlap ↦ omega arith
  | is.Size ↦ omega arith
  | is.Full ↦ omega arith
  | is.Object ↦ omega arith
  | is.Field ↦ omega arith
  | is.Target ↦ omega arith
  | is.Text ↦ omega arith
]

-- The refusals in the order of their numbers.
in_order : List Refusal
in_order = is.Limits ∷ is.Room ∷ is.List ∷ is.Address ∷ is.Header ∷ is.Overlap ∷ is.Size ∷ is.Full ∷ is.Object ∷ is.Field ∷ is.Target ∷ is.Text ∷ []

-- A refusal is found by its number.
found : (r : Refusal) → slice_index_or in_order (number r - 1) is.Limits ≡ r
unfolding in_order
found is.Limits = refl
found is.Room = refl
found is.List = refl
found is.Address = refl
found is.Header = refl
found is.Overlap = refl
found is.Size = refl
found is.Full = refl
found is.Object = refl
found is.Field = refl
found is.Target = refl
found is.Text = refl

-- So no two refusals have one number.
pub number_one : (r s : Refusal) → number r ≡ number s → r ≡ s
number_one r s e = sym (found r) ∙ ap (λ (n : ℕ). slice_index_or in_order (n - 1) is.Limits) e ∙ found s
