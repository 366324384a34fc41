-- What users look for: how read, write and survey answer, what references name, and what a collection keeps.
use Rattle.std.specs.Prelude.{ℕ, ◌-◌, ◌≤◌, ◌<◌, ◌≡◌, refl, ◌↔◌, ◌⊎◌, List}
use Rattle.std.proofs.Common.{sym, ap, ◌∙◌, inl, inr, arith}
use mathlib.Mathlib.Data.Bool.Basic.{eq-false_of_not-eq-true}
use Rattle.std.proofs.Math.Decide.{ℕ_discrete}
use Rattle.words.specs.Header.{refs_at}
use Rattle.words.proofs.HeaderLaws.{equal_size, equal_refs}
use Rattle.layout.specs.declared.State.{State}
use Rattle.freelist.specs.Records.{records}
use Rattle.freelist.specs.Figures.{figures_of}
use Rattle.store.specs.Fields.{Written, object_code, field_code}
use Rattle.store.proofs.FieldsLaws.{start_takes, takes_start, no_start, no_field, has_field, read_refused, read_given, write_refused, write_untaken, write_stored}
use Rattle.demands.specs.Reach.{Reach}
use Rattle.demands.specs.World.{collect, field_at, reads_on, surveys_on, writes_on, On}
use Rattle.demands.specs.History.{History, ◌then◌, world, keep_of, Rooted, Keeps, Held, allotted_as}
use Rattle.demands.specs.Answers.{ReadAnswers, WriteAnswers}
use Rattle.demands.specs.Stands.{Agrees}
use Rattle.demands.proofs.StandsLaws.{stands_surveyed}
use Rattle.demands.proofs.Demand3CollectHolds.{reached_on}
use Rattle.demands.proofs.Demand3WriteHolds.{field_code_lem}
use Rattle.demands.proofs.AgreesLaws.{agrees}
use Rattle.demands.proofs.Demand3Holds.{demand_3}

module _ (past : History) (keeps : Keeps past) where
  -- What the history says of the world.
  told : Agrees past
  told = agrees past keeps

  -- What the calls are lent.
  abbrev state : State
  state = (world past).state

  abbrev heap : List ℕ
  heap = (world past).heap

  abbrev map : List ℕ
  map = (world past).map

  module _ (a k : ℕ) where
    -- The number of field k of the object at a.
    abbrev number : ℕ
    number = field_code state heap map a k

    -- It is that of the object.
    is_object : {n : ℕ} → n ≡ object_code heap state.keep map a k → n ≡ number
    is_object e = e ∙ sym (field_code_lem told.stands a k)

    -- It is 9 where no object is held.
    number_unheld : ¬ Held past a → 9 ≡ number
    number_unheld none = is_object (no_start heap state.keep map a k (eq-false_of_not-eq-true (λ on. none ((told.held a).0 on))))

    module _ (held : Held past a) where
      -- The object is on the map.
      on : On (world past) a
      on = (told.held a).1 held

      -- It is 10 where the object has no such field, and else 0.
      number_fieldless : (allotted_as past a).size - 1 ≤ k → 10 ≡ number
      number_fieldless past_end =
          is_object (no_field heap state.keep map a k on (told.stands.objects.formed a on) refl (rw (equal_size (told.header a on)) past_end))

      number_none : k < (allotted_as past a).size - 1 → 0 ≡ number
      number_none has =
          is_object (has_field heap state.keep map a k on (told.stands.objects.formed a on) refl (rw (equal_size (told.header a on)) has))

      -- A reference field is empty or names a held object.
      pub references_held : k < (allotted_as past a).refs → (field_at (world past) a k ≡ 0) ⊎ Held past (field_at (world past) a k)
      references_held has =
          let in_refs : k < refs_at heap a = rw (equal_refs (told.header a on)) has in
          elim (ℕ_discrete (field_at (world past) a k) 0) [
            | yes none ↦ inl none
            | no some ↦ inr ((told.held (field_at (world past) a k)).0 (told.stands.named a k on in_refs some))
          ]

    -- How a read answers.
    pub read_answers : ReadAnswers past a k (reads_on (world past) a k)
    read_answers = record {
      given = λ x. sym (read_given state heap map a k (number_none x.0 x.1) refl) ∙ rw ((demand_3 past keeps).words a k x.0 x.1) refl;
      fieldless = λ held end. sym (read_refused state heap map a k (number_fieldless held end) (λ e. omega arith));
      unheld = λ none. sym (read_refused state heap map a k (number_unheld none) (λ e. omega arith));
    }

    -- How a write of v answers.
    pub write_answers : (v : ℕ) → WriteAnswers past a k v (writes_on (world past) a k v).code
    write_answers v = record {
      stored = λ x takes. code (write_stored state heap map a k (number_none x.0 x.1) v refl refl (start_takes heap map a k v (may x.0 takes)));
      untaken = λ x ref some none. code (write_untaken state heap map a k (number_none x.0 x.1) v refl refl (eq-false_of_not-eq-true (λ taken. none ((told.held v).0 (takes_start heap map a k v taken (rw (equal_refs (told.header a (on x.0))) ref) some)))));
      fieldless = λ held end. code (write_refused state heap map a k (number_fieldless held end) v (λ e. omega arith));
      unheld = λ none. code (write_refused state heap map a k (number_unheld none) v (λ e. omega arith));
    }
      where
        code : {x : Written} → x ≡ writes_on (world past) a k v → (writes_on (world past) a k v).code ≡ x.code
        code e = sym (ap (λ (x : Written). x.code) e)

        may : Held past a → ((allotted_as past a).refs ≤ k) ⊎ ((v ≡ 0) ⊎ Held past v) → (refs_at heap a ≤ k) ⊎ ((v ≡ 0) ⊎ On (world past) v)
        may held (inl any) = inl (rw (equal_refs (told.header a (on held))) any)
        may held (inr (inl none)) = inr (inl none)
        may held (inr (inr named)) = inr (inr ((told.held v).1 named))

  -- A survey gives the figures of the list.
  pub survey_answers : surveys_on (world past) ≡ record { code = 0; figures = figures_of (records (world past).state.count (world past).list) }
  survey_answers = stands_surveyed told.stands

  -- What is held after a collection is just what its roots reach.
  pub held_reached : {roots : List ℕ} → Rooted (world past) roots → (a : ℕ) → Held (past then collect roots) a ↔ Reach heap (keep_of past) roots a
  unfolding Held
  held_reached rooted a = (λ x. x.1, λ reached. ((told.held a).0 (reached_on told.stands rooted (rw told.keep reached)), reached))
