-- Laws of places of bytes.
use Rattle.std.specs.Prelude.{ℕ, ◌+◌, ◌≤◌, ◌<◌, ◌≡◌, refl, Bool, true, false, cond, List, length, ltb, eqb, Some, None}
use Rattle.std.specs.List.{position, position_or_len}
use Rattle.std.proofs.Common.{sym, ◌∙◌, arith, ltb-true, ltb-false}
use Rattle.std.proofs.lemmas.List.Recursion.{is_position_or_len}
use Rattle.image.specs.Bytes.{index_after, index_of}

-- A place is counted on from the first byte.
index_counts : (test : Bool) (n : ℕ) → index_after test n ≡ cond test 0 (1 + n)
unfolding index_after
index_counts true n = refl
index_counts false n = omega arith

-- The place of a byte is where a search for it ends.
index_position : (b : ℕ) (xs : List ℕ) → index_of b xs ≡ position_or_len (λ x. eqb x b) xs
unfolding index_of
index_position b xs = is_position_or_len (index_of b) (λ x. eqb x b) refl (λ x xs. index_counts (eqb x b) (index_of b xs)) xs

-- Where a test chooses a number, it holds.
chosen : (test : Bool) (n : ℕ) {i : ℕ} → cond test (Some n) None ≡ Some i → (test ≡ true) × (n ≡ i)
chosen true n e = (refl, cc)
chosen false n e = absurd (cc)

-- Where it chooses none, it fails.
not_chosen : (test : Bool) (n : ℕ) → cond test (Some n) None ≡ None → test ≡ false
not_chosen true n e = absurd (cc)
not_chosen false n e = refl

-- A search that finds a byte has its place.
pub place_found : (b : ℕ) (xs : List ℕ) {i : ℕ} → position (λ x. eqb x b) xs ≡ Some i → (i ≡ index_of b xs) × (i < length xs)
place_found b xs e =
    let found = chosen (ltb (position_or_len (λ x. eqb x b) xs) (length xs)) (position_or_len (λ x. eqb x b) xs) e in
    (sym (index_position b xs ∙ found.1), omega (arith, found.1, ltb-true _ _ found.0))

-- One that finds none has gone to the end.
pub place_missing : (b : ℕ) (xs : List ℕ) → position (λ x. eqb x b) xs ≡ None → length xs ≤ index_of b xs
place_missing b xs e = omega (arith, index_position b xs, ltb-false _ _ (not_chosen (ltb (position_or_len (λ x. eqb x b) xs) (length xs)) (position_or_len (λ x. eqb x b) xs) e))
