-- Laws of words at the front of a buffer.
use Rattle.std.specs.Prelude.{ℕ, ◌≤◌, ◌<◌, ◌≡◌, refl, Bool, true, ◌&&◌, List, [], ◌∷◌, ◌++◌, length, set, leb}
use Rattle.std.proofs.Common.{ap, ◌∙◌, arith, leb-true}
use Rattle.std.proofs.Math.Bool.{and-eq-true_iff}
use Rattle.firmware.specs.Lent.{state_room, fronted}

-- A word stored behind those at the front is at the front too.
stored : (l : List ℕ) (w : ℕ) (buffer : List ℕ) → length l < length buffer → set (fronted l buffer) (length l) w ≡ fronted (l ++ (w ∷ [])) buffer
stored l w [] inside = absurd (omega arith)
stored [] w (x ∷ buffer) inside = refl
stored (y ∷ l) w (x ∷ buffer) inside = ap (λ (r : List ℕ). y ∷ r) (stored l w buffer (omega arith))

-- So words that are stored one after the other come to stand at the front.
pub front_next : (l : List ℕ) (w : ℕ) (buffer : List ℕ) {before : List ℕ} → before ≡ fronted l buffer → length l < length buffer → set before (length l) w ≡ fronted (l ++ (w ∷ [])) buffer
front_next l w buffer e inside = ap (λ (b : List ℕ). set b (length l) w) e ∙ stored l w buffer inside

-- The test of state and answer as a call makes it, where n words are answered.
abbrev pub Long : List ℕ → List ℕ → ℕ → Bool → Type 0
Long state answer n b = leb state_room (length state) && leb n (length answer) ≡ b

-- What it tells.
pub both_long : (state answer : List ℕ) (n : ℕ) → Long state answer n true → (state_room ≤ length state) × (n ≤ length answer)
both_long state answer n e =
    let b = (and-eq-true_iff (leb state_room (length state)) (leb n (length answer))).0 e in
    (leb-true state_room (length state) b.0, leb-true n (length answer) b.1)
