-- Quoted text as bytes.
use Rattle.std.specs.Prelude.{ℕ, List, [], ◌∷◌}
use Prim.Native.Char.{code}
use Prim.Native.String.{String, [] as end, ◌∷◌ as ◌then◌}

-- The bytes of a quoted text, one for each of its characters.
unfoldable pub ascii : String → List ℕ
ascii end = []
ascii (c then rest) = code c ∷ ascii rest
