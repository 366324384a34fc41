-- Places of bytes.
use Rattle.std.specs.Prelude.{ℕ, suc, Bool, true, false, List, [], ◌∷◌, eqb}

-- The place of a byte in a list, from whether it is the first one and its place in the rest.
unfoldable pub index_after : Bool → ℕ → ℕ
index_after true n = 0
index_after false n = suc n

-- The place of the first b in a list, or the list's length where there is none.
unfoldable pub index_of : ℕ → List ℕ → ℕ
index_of b [] = 0
index_of b (x ∷ xs) = index_after (eqb x b) (index_of b xs)
