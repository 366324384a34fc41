-- Every history that keeps the premises agrees with the world that it leaves.
use Rattle.std.specs.Prelude.{ℕ, ◌-◌, ◌<◌, ◌≡◌, false, List}
use Rattle.std.proofs.Common.{sym, ◌∙◌, inl, inr}
use Rattle.words.proofs.HeaderLaws.{equal_size}
use Rattle.words.specs.Header.{size_at, header_at}
use Rattle.words.specs.declared.header.Header.{Header}
use Rattle.layout.specs.RefusalLaws.{by_test}
use Rattle.runs.proofs.LongestLaws.{clash}
use Rattle.demands.specs.World.{World, allot, read, write, collect, survey, field_at, allots_on, after, On, effect}
use Rattle.demands.specs.History.{History, set_up, ◌then◌, world, words_of, keep_of, Rooted, Premise, Keeps, gives, Held, allotted_as, last_written}
use Rattle.demands.specs.Stands.{Stands, Agrees}
use Rattle.demands.proofs.StandsLaws.{sized}
use Rattle.demands.proofs.Demand3SetUpHolds.{set_up_left, set_up_none, set_up_stands}
use Rattle.demands.proofs.Demand3AllotHolds.{AllotLeaves, allot_leaves, allot_zeros}
use Rattle.demands.proofs.Demand3WriteHolds.{write_stands, write_long, write_header, write_field}
use Rattle.demands.proofs.Demand3CollectHolds.{reached_on, collect_starts, collect_keep, collect_stands}

-- After an allot.
allot_agrees : {past : History} (s p : ℕ) → Agrees past → Agrees (past then allot s p)
unfolding world effect words_of keep_of Held allotted_as last_written gives
allot_agrees {past} s p ih = record {
  stands = x.stands;
  long = sized x.stands ∙ x.words ∙ sym (sized ih.stands) ∙ ih.long;
  keep = x.keep ∙ ih.keep;
  held = λ a. (
    λ on. elim ((x.on a).0 on) [ inl old ↦ inl ((ih.held a).0 old) | inr new ↦ inr new ],
    λ e. (x.on a).1 (elim e [ inl old ↦ inl ((ih.held a).1 old) | inr new ↦ inr new ]),
  );
  header = λ a on. by_test (λ (h : Header). header_at (allots_on w s p).heap a ≡ h) (gives w s p a) (x.new_header a) (λ other. x.old_header a (was a on other) ∙ ih.header a (was a on other));
  field = λ a k on has. by_test (λ (v : ℕ). field_at (after w (allot s p)) a k ≡ v) (gives w s p a)
      (λ new. allot_zeros ih.stands s p a k new (rw (equal_size (x.new_header a new)) at has))
      (λ other. let old = was a on other in
      let has' : k < size_at w.heap a - 1 = rw (equal_size (x.old_header a old)) at has in
      x.old_field a k old has' ∙ ih.field a k old has');
}
  where
    w : World
    w = world past

    x : AllotLeaves (world past) s p (allots_on (world past) s p)
    x = allot_leaves ih.stands s p

    was : (a : ℕ) → On (after (world past) (allot s p)) a → gives (world past) s p a ≡ false → On (world past) a
    was a on other = elim ((x.on a).0 on) [ inl old ↦ old | inr new ↦ absurd (clash new other) ]

-- After a write.
write_agrees : {past : History} (a k v : ℕ) → Agrees past → Agrees (past then write a k v)
unfolding world effect words_of keep_of Held allotted_as last_written
write_agrees {past} a k v ih = record {
  stands = write_stands g a k v;
  long = write_long g a k v ∙ ih.long;
  keep = ih.keep;
  held = rw (write_long g a k v) ih.held;
  header = λ b on. write_header g a k v b (was b on) ∙ ih.header b (was b on);
  field = λ b j on has.
      let old = was b on in
      let has' : j < size_at (world past).heap b - 1 = rw (equal_size (write_header g a k v b old)) at has in
      write_field g a k v b j old has' ∙ rw (ih.field b j old has');
}
  where
    g : Stands (world past)
    g = ih.stands

    was : (b : ℕ) → On (after (world past) (write a k v)) b → On (world past) b
    was b on = rw (write_long ih.stands a k v) at on

-- What is held after a collection is on its map.
held_on : {past : History} {roots : List ℕ} → Rooted (world past) roots → Agrees past → (a : ℕ) → Held (past then collect roots) a → On (after (world past) (collect roots)) a
unfolding Held
held_on rooted ih a held = (collect_starts ih.stands rooted a).1 (rw ih.keep held.1)

-- After a collection.
collect_agrees : {past : History} {roots : List ℕ} → Rooted (world past) roots → Agrees past → Agrees (past then collect roots)
unfolding world effect words_of keep_of Held allotted_as last_written
collect_agrees {past} {roots} rooted ih = record {
  stands = collect_stands g rooted;
  long = ih.long;
  keep = collect_keep g rooted ∙ ih.keep;
  held = λ a. (
    λ on. let p = (collect_starts g rooted a).0 on in ((ih.held a).0 (reached_on g rooted p), rw ih.keep at p),
    held_on rooted ih a,
  );
  header = λ a on. ih.header a (was a on);
  field = λ a k on. ih.field a k (was a on);
}
  where
    g : Stands (world past)
    g = ih.stands

    was : (a : ℕ) → On (after (world past) (collect roots)) a → On (world past) a
    was a on = reached_on ih.stands rooted ((collect_starts ih.stands rooted a).0 on)

-- After set-up.
set_up_agrees : (heap : List ℕ) (t : ℕ) (map stack list : List ℕ) → Keeps (set_up heap t map stack list) → Agrees (set_up heap t map stack list)
unfolding Keeps world words_of keep_of Held
set_up_agrees heap t map stack list lent = record {
  stands = set_up_stands lent;
  long = rw (set_up_left lent);
  keep = rw (set_up_left lent);
  held = λ a. (set_up_none lent a, λ e. absurd e);
  header = λ a on. absurd (set_up_none lent a on);
  field = λ a k on. absurd (set_up_none lent a on);
}

-- After every call of a history that keeps the premises.
pub agrees : (past : History) → Keeps past → Agrees past
unfolding Keeps Premise world effect words_of keep_of Held allotted_as last_written
agrees (set_up heap t map stack list) keeps = set_up_agrees heap t map stack list keeps
agrees (past then allot s p) keeps = allot_agrees s p (agrees past keeps.0)
agrees (past then read b j) keeps = let x = agrees past keeps.0 in record { stands = x.stands; long = x.long; keep = x.keep; held = x.held; header = x.header; field = x.field }
agrees (past then write b j v) keeps = write_agrees b j v (agrees past keeps.0)
agrees (past then collect roots) keeps = collect_agrees keeps.1 (agrees past keeps.0)
agrees (past then survey) keeps = let x = agrees past keeps.0 in record { stands = x.stands; long = x.long; keep = x.keep; held = x.held; header = x.header; field = x.field }
