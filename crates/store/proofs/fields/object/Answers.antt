-- `object_code`: its tests, in their order, are those of `object_code`.
use mathlib.Core.Path.{◌≡◌, sym, ◌∙◌}
use mathlib.Core.Bool.{true}
use native.Mathlib.Omega.{arith}
use lib.ListN.{length}
use Rattle.words.proofs.HeaderLaws.{formed}
use Rattle.words.specs.Header.{well_formed}
use Rattle.words.proofs.MapLaws.{start}
use Rattle.words.specs.Map.{is_start}
use Rattle.store.proofs.FieldsLaws.{no_start, bad_header, no_field, has_field}
use Rattle.store.proofs.fields.object.Goals as goal
use Rattle.store.proofs.fields.object.Goals.{Else-not-is_formed, Else-not-is_start}

-- An object starts at a.
starts : (c : Else-not-is_start) → let t = c.args in is_start (length t.heap.now) t.map.now t.a ≡ true
starts c = sym c.is_start.ensures ∙ c.if-not-is_start.false

-- Its header is good.
is-good : (c : Else-not-is_formed) → let t = c.args in well_formed t.heap.now t.keep t.a ≡ true
is-good c = sym c.is_formed.ensures ∙ c.if-not-is_formed.false

pub returns-then-not-is_start : goal.returns-then-not-is_start
returns-then-not-is_start c = let t = c.args in no_start t.heap.now t.keep t.map.now t.a t.k (sym c.is_start.ensures ∙ c.if-not-is_start.true)

pub is_formed-requires : goal.is_formed-requires
is_formed-requires c = let t = c.args in (start (length t.heap.now) t.map.now t.a (starts c)).inside

pub returns-then-not-is_formed : goal.returns-then-not-is_formed
returns-then-not-is_formed c = let t = c.args in bad_header t.heap.now t.keep t.map.now t.a t.k (starts (goal.at.returns-then-not-is_formed c).Else-not-is_start) (sym c.is_formed.ensures ∙ c.if-not-is_formed.true)

pub at-header-requires : goal.at-header-requires
at-header-requires c = let t = c.args in (start (length t.heap.now) t.map.now t.a (starts (goal.at.at-header-requires c).Else-not-is_start)).inside

pub overflow_sub-header : goal.overflow_sub-header
overflow_sub-header c = let t = c.args in rw c.at-header.ensures (omega (arith, (formed t.heap.now t.keep t.a (is-good (goal.at.overflow_sub-header c).Else-not-is_formed)).fewer))

pub returns-then-header-k : goal.returns-then-header-k
returns-then-header-k c = let t = c.args in no_field t.heap.now t.keep t.map.now t.a t.k (starts (goal.at.returns-then-header-k c).Else-not-is_start) (is-good (goal.at.returns-then-header-k c).Else-not-is_formed) c.at-header.ensures c.if-header-k.true

pub returns : goal.returns
returns c = let t = c.args in has_field t.heap.now t.keep t.map.now t.a t.k (starts (goal.at.returns c).Else-not-is_start) (is-good (goal.at.returns c).Else-not-is_formed) c.at-header.ensures c.if-header-k.false
