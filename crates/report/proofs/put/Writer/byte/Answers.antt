-- `Writer::byte`: both ways out are those of `puts`.
use Rattle.std.proofs.Common.{refl, add-one, lt-ltb, le-ltb}
use Rattle.report.specs.Puts.{puts}
use Rattle.report.proofs.put.Writer.byte.Goals as goal

pub returns-then-self : goal.returns-then-self
unfolding puts
returns-then-self c = record { same_buffer = refl; written = rw (lt-ltb _ _ c.if-self.true, add-one) }

pub returns-else-self : goal.returns-else-self
unfolding puts
returns-else-self c = record { same_buffer = refl; written = rw (le-ltb _ _ c.if-self.false) }
