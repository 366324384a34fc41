-- Bytes written one behind another to the output buffer.
use Rattle.std.specs.Prelude.{ℕ, suc, cond, List, [], ◌∷◌, length, set, ltb}
use Rattle.report.specs.Answer.{Output, output}

-- Bytes from a place on, as far as the buffer goes: where the next one would stand, and what the buffer then holds.
unfoldable pub puts : ℕ → List ℕ → List ℕ → Output
puts at [] out = output at out
puts at (b ∷ rest) out = cond (ltb at (length out)) (puts (suc at) rest (set out at b)) (puts at rest out)
