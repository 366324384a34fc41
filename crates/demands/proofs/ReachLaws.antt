-- Laws of what is reached, and of faults.
use Rattle.std.specs.Prelude.{ℕ, ◌≤◌, ◌≡◌, refl, ◌≢◌, true}
use mathlib.Core.List.{List, [], ◌∷◌, Memᴰ}
use Rattle.std.proofs.Common.{arith}
use Rattle.words.specs.Header.{well_formed}
use Rattle.words.proofs.HeaderLaws.{Formed, formed}
use Rattle.runs.proofs.LongestLaws.{clash}
use Rattle.demands.specs.Reach.{Refers, Reach, by_root, by_field, Sound, Fault, bad_address, bad_header, overlap}

-- What holds of every root, and of every reference of a well-formed object that it holds of, the empty ones left out, holds of all that is reached.
pub reach_least : {heap : List ℕ} {t : ℕ} {roots : List ℕ} (P : ℕ → Type 0) → ((r : ℕ) → Memᴰ r roots → r ≢ 0 → P r) → ((a r : ℕ) → P a → well_formed heap t a ≡ true → Refers heap a r → r ≢ 0 → P r) → {a : ℕ} → Reach heap t roots a → P a
reach_least P roots fields (by_root {r} i some) = roots r i some
reach_least P roots fields (by_field {a} {r} p well i some) = fields a r (reach_least P roots fields p) well i some

-- What is reached is not empty.
pub reach_some : {heap : List ℕ} {t : ℕ} {roots : List ℕ} {a : ℕ} → Reach heap t roots a → a ≢ 0
reach_some = reach_least (λ a. a ≢ 0) (λ r i some. some) (λ a r p well i some. some)

-- Where a number says that a reference is at fault, not all is sound.
pub unsound : {heap : List ℕ} {t : ℕ} {roots : List ℕ} {c r : ℕ} → Fault heap t roots c r → ¬ Sound heap t roots
unsound {heap} {t} (bad_address {r} met l) s = let f : Formed heap t r = formed heap t r (s.formed r met) in omega (arith, f.ends, f.fewer)
unsound (bad_header {r} met l e) s = clash (s.formed r met) e
unsound (overlap {r} {b} met well met' well' other o) s = s.apart r b met met' other o

-- It has one of these numbers.
pub fault_number : {heap : List ℕ} {t : ℕ} {roots : List ℕ} {c r : ℕ} → Fault heap t roots c r → Memᴰ c (4 ∷ 5 ∷ 6 ∷ [])
fault_number (bad_address met l) = Memᴰ.head refl
fault_number (bad_header met l e) = Memᴰ.tail (Memᴰ.head refl)
fault_number (overlap met well met' well' other o) = Memᴰ.tail (Memᴰ.tail (Memᴰ.head refl))

-- So its number is above 3.
pub fault_above : {heap : List ℕ} {t : ℕ} {roots : List ℕ} {c r : ℕ} → Fault heap t roots c r → 4 ≤ c
fault_above (bad_address met l) = omega arith
fault_above (bad_header met l e) = omega arith
fault_above (overlap met well met' well' other o) = omega arith
