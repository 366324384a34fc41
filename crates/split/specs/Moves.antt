-- Words of the list moved by one record.
use Rattle.std.specs.Prelude.{ℕ, ◌+◌, List, ◌∷◌, ◌++◌, take, drop}
use Rattle.std.proofs.Math.Seq.{slice}

-- The words from `at` up to `to` two places up, and a record in the gap.
unfoldable pub raised : ℕ → ℕ → ℕ → ℕ → List ℕ → List ℕ
raised at to start size list = take at list ++ (start ∷ size ∷ (slice at to list ++ drop (to + 2) list))

-- The record at `at` gone, the n words behind it two places down, and zeros in the record that they leave.
unfoldable pub lowered : ℕ → ℕ → List ℕ → List ℕ
lowered at n list = take at list ++ (take n (drop (at + 2) list) ++ (0 ∷ 0 ∷ drop (at + n + 2) list))
