-- What a writer has written.
use Rattle.std.specs.Prelude.{ℕ, ◌≡◌, List}
use Rattle.report.specs.Answer.{output}
use Rattle.report.specs.Puts.{puts}
use Rattle.report.specs.declared.put.Writer.{Writer}

-- These bytes are written to the same buffer, from where the writer stood, as far as the buffer goes.
pub record Writes (before : Writer) (bytes : List ℕ) (after : Writer) : Type 0 where
  pub same_buffer : after.out.ghost_name ≡ before.out.ghost_name
  pub written : output after.at after.out.now ≡ puts before.at bytes before.out.now
