-- Laws of what a writer has written.
use Rattle.std.specs.Prelude.{ℕ, refl, List, [], ◌++◌}
use Rattle.std.proofs.Common.{◌∙◌}
use Rattle.report.specs.Puts.{puts}
use Rattle.report.specs.PutsLaws.{puts_then}
use Rattle.report.specs.Written.{Writes}
use Rattle.report.specs.declared.put.Writer.{Writer}

-- Nothing is written by one that stays as it is.
pub writes_none : (w : Writer) → Writes w [] w
unfolding puts
writes_none w = record { same_buffer = refl; written = refl }

-- What is written twice is written one behind the other.
pub writes_then : {a b c : Writer} {x y : List ℕ} → Writes a x b → Writes b y c → Writes a (x ++ y) c
writes_then {a = a} {x = x} {y = y} e f = record { same_buffer = f.same_buffer ∙ e.same_buffer; written = puts_then a.at x y a.out.now e.written f.written }
