-- `takes`: the three tests are those of the definition.
use mathlib.Core.Path.{◌≡◌, refl}
use lib.ListN.{length}
use Rattle.words.specs.Map.{is_start}
use Rattle.store.specs.Fields.{takes}
use Rattle.store.proofs.fields.takes.Goals as goal

pub returns : goal.returns
unfolding takes
returns c =
    let t = c.args in
    let stands : c.is_start.result ≡ is_start (length t.heap.now) t.map.now t.v = rw (← c.wide-value.ensures.0) c.is_start.ensures in
    rw (stands, c.at-header.ensures) refl
