-- What users look for: no object that is reachable gets lost, moved, or changed but by a write.
use Rattle.std.specs.Prelude.{ℕ, ◌<◌, ◌≡◌, true, List, [], ◌∷◌}
use Rattle.std.proofs.Math.Path.{refl}
use Rattle.std.proofs.Common.{sym, ◌∙◌, inl, inr, arith}
use mathlib.Mathlib.Data.Bool.Basic.{eq-false_of_not-eq-true}
use Rattle.words.proofs.HeaderLaws.{formed, equal_size}
use Rattle.demands.specs.World.{Call, allot, read, write, collect, survey}
use Rattle.demands.specs.History.{History, ◌then◌, world, keep_of, Premise, Keeps, gives, Held, allotted_as, last_written, onward}
use Rattle.demands.specs.Along.{Along, Reaches, Spares, ComesThrough}
use Rattle.demands.proofs.Demand3Holds.{demand_3}

-- What has kept the premises kept them before.
keeps_before : (past : History) (calls : List Call) → Keeps (onward past calls) → Keeps past
unfolding onward Keeps
keeps_before past [] keeps = keeps
keeps_before past (c ∷ calls) keeps = (keeps_before (past then c) calls keeps).0

module _ (past : History) (keeps : Keeps past) where
  -- An object that an allot gives has a word.
  some_words : (s p a : ℕ) → gives (world past) s p a ≡ true → 0 < s
  unfolding gives Keeps Premise allotted_as Held keep_of
  some_words s p a new =
      let d = demand_3 (past then allot s p) (keeps, tt) in
      let f = formed (world (past then allot s p)).heap (keep_of past) a (d.objects.formed a (inr new)) in
      let same : allotted_as (past then allot s p) a ≡ record { size = s; refs = p } = rw new refl in
      omega (arith, f.fewer, equal_size (d.headers a (inr new) ∙ same))

  -- An allot gives no address that is held, so none is held twice at once.
  pub never_twice : (s p a : ℕ) → gives (world past) s p a ≡ true → ¬ Held past a
  never_twice s p a new held =
      let d = demand_3 past keeps in
      let f = formed (world past).heap (keep_of past) a (d.objects.formed a held) in
      d.fresh s p a a new (omega arith) (omega (arith, some_words s p a new)) (a, held, omega arith, omega (arith, f.fewer))

  -- A held object keeps the header with which it was allotted …
  header_call : (c : Call) (a : ℕ) → Held past a → allotted_as (past then c) a ≡ allotted_as past a
  unfolding allotted_as
  header_call (allot s p) a held = rw (eq-false_of_not-eq-true (λ new. never_twice s p a new held))
  header_call (read b j) a held = refl
  header_call (write b j v) a held = refl
  header_call (collect roots) a held = refl
  header_call survey a held = refl

  -- … and what was last written to a field, but for a write that stores there.
  field_call : (c : Call) (a k : ℕ) → Held past a → Spares a k past c → last_written (past then c) a k ≡ last_written past a k
  unfolding last_written Spares
  field_call (allot s p) a k held spared = rw (eq-false_of_not-eq-true (λ new. never_twice s p a new held))
  field_call (read b j) a k held spared = refl
  field_call (write b j v) a k held spared = rw spared
  field_call (collect roots) a k held spared = refl
  field_call survey a k held spared = refl

-- An object that a call reaches, if it is a collection, is held after it.
held_call : (past : History) (c : Call) (a : ℕ) → Held past a → Reaches a past c → Held (past then c) a
unfolding Held Reaches
held_call past (allot s p) a held reached = inl held
held_call past (read b j) a held reached = held
held_call past (write b j v) a held reached = held
held_call past (collect roots) a held reached = (held, reached)
held_call past survey a held reached = held

-- Along many calls it is held, as it was allotted, and with what was last written to a field in which no write stores.
held_still : (past : History) (calls : List Call) (a : ℕ) → Held past a → Along (Reaches a) past calls → Held (onward past calls) a
unfolding onward Along
held_still past [] a held reached = held
held_still past (c ∷ calls) a held reached = held_still (past then c) calls a (held_call past c a held reached.0) reached.1

header_still : (past : History) (calls : List Call) → Keeps (onward past calls) → (a : ℕ) → Held past a → Along (Reaches a) past calls → allotted_as (onward past calls) a ≡ allotted_as past a
unfolding onward Along
header_still past [] keeps a held reached = refl
header_still past (c ∷ calls) keeps a held reached = header_still (past then c) calls keeps a (held_call past c a held reached.0) reached.1 ∙ header_call past (keeps_before past (c ∷ calls) keeps) c a held

field_still : (past : History) (calls : List Call) → Keeps (onward past calls) → (a k : ℕ) → Held past a → Along (Reaches a) past calls → Along (Spares a k) past calls → last_written (onward past calls) a k ≡ last_written past a k
unfolding onward Along
field_still past [] keeps a k held reached spared = refl
field_still past (c ∷ calls) keeps a k held reached spared = field_still (past then c) calls keeps a k (held_call past c a held reached.0) reached.1 spared.1 ∙ field_call past (keeps_before past (c ∷ calls) keeps) c a k held spared.0

-- An object that every collection reaches comes through.
pub comes_through : (past : History) (calls : List Call) → Keeps (onward past calls) → (a : ℕ) → Held past a → Along (Reaches a) past calls → ComesThrough past calls a
comes_through past calls keeps a held reached =
    let still = held_still past calls a held reached in
    let before = demand_3 past (keeps_before past calls keeps) in
    let now = demand_3 (onward past calls) keeps in
    let same = header_still past calls keeps a held reached in
    record {
      held = still;
      unmoved = (now.starts a).1 still;
      header = now.headers a still ∙ same ∙ sym (before.headers a held);
      fields = λ k has spared. now.words a k still (rw same has) ∙ field_still past calls keeps a k held reached spared ∙ sym (before.words a k held has);
    }
