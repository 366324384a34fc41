-- Demand 3 holds.
use Rattle.std.specs.Prelude.{ℕ, ◌+◌, ◌≤◌, ◌<◌, ◌≡◌, refl, ◌↔◌, true, List, length, take}
use Rattle.std.proofs.Common.{◌∙◌}
use Rattle.std.proofs.Math.Logic.{inl, inr}
use native.Mathlib.Omega.{arith}
use Rattle.words.proofs.HeaderLaws.{equal_size}
use Rattle.words.specs.Map.{bit_at}
use Rattle.words.proofs.MapLaws.{start}
use Rattle.layout.specs.Limits.{map_words}
use Rattle.layout.specs.declared.Interval.{Interval}
use Rattle.runs.specs.Lists.{Member, Longest}
use Rattle.runs.proofs.CoverLaws.{start_take}
use Rattle.demands.specs.Demand2.{Tells, Lists}
use Rattle.demands.proofs.ListsLaws.{covered_tells, list_lists}
use Rattle.demands.specs.World.{allots_on}
use Rattle.demands.specs.History.{History, world, keep_of, Keeps, gives, Held}
use Rattle.demands.specs.Demand3.{InHeld, FreeRun, AllotAnswers, Demand3}
use Rattle.demands.specs.Stands.{free_of, Agrees}
use Rattle.demands.proofs.StandsLaws.{objects_same, list_read, keep_some}
use Rattle.demands.proofs.Demand3AllotHolds.{allot_leaves, allot_code}
use Rattle.demands.proofs.Demand3CollectHolds.{collect_succeeds}
use Rattle.demands.proofs.AgreesLaws.{agrees}

module _ (past : History) (keeps : Keeps past) where
  -- What the history says of the world.
  told : Agrees past
  told = agrees past keeps

  -- The bits in the map's needed words are those of held objects.
  bits_held : Tells (bit_at (take (map_words (length (world past).heap)) (world past).map)) (Held past)
  bits_held a =
      let h : ℕ = length (world past).heap in
      let map : List ℕ = (world past).map in
      (λ e. (told.held a).0 (told.stands.bits a e), λ e. (start h (take (map_words h) map) a (start_take h map a ∙ (told.held a).1 e)).bit)

  -- The list is the one that it must be.
  lists_runs : Lists (world past).state.keep (length (world past).heap) (InHeld past) (world past).state.count (world past).list
  lists_runs = list_lists (world past).heap (world past).map (keep_some told.stands) (covered_tells (world past).heap (world past).map told.held) (list_read told.stands) told.stands.listed

  -- The free intervals are the runs that are free.
  listed_run : (i : Interval) → Member (free_of (world past)) i ↔ Longest (world past).state.keep (InHeld past) 1 (length (world past).heap) i
  listed_run i = rw (← list_read told.stands) (lists_runs.longest i)

  -- What an allot answers.
  allot_answers : (s p : ℕ) → AllotAnswers (keep_of past) (FreeRun past) s p (allots_on (world past) s p).answer.code
  allot_answers s p =
      let x = allot_code told.stands s p in
      rw (← told.keep) (record {
        unasked = x.unasked;
        lacks = (λ e. let y = x.lacks.0 e in (y.0, λ i run. y.1 i ((listed_run i).1 run)), λ e. x.lacks.1 (e.0, λ i m. e.1 i ((listed_run i).0 m)));
        others = x.others;
      })

  -- A new object has no word of what is held.
  new_apart : (s p a w : ℕ) → gives (world past) s p a ≡ true → a ≤ w → w < a + s → ¬ InHeld past w
  unfolding gives
  new_apart s p a w new low high (b, held, from, to) = elim ((allot_leaves told.stands s p).beside a b new ((told.held b).1 held)) [ inl before ↦ omega arith | inr behind ↦ omega arith ]

  -- All of it.
  pub demand_3 : Demand3 past
  demand_3 = record {
    starts = told.held;
    bits = bits_held;
    objects = rw (← told.keep) (objects_same (world past).heap (world past).heap refl (λ a on. refl) (λ a e. (told.held a).1 e) told.stands.objects);
    fresh = new_apart;
    headers = λ a e. told.header a ((told.held a).1 e);
    words = λ a k e has. let on = (told.held a).1 e in told.field a k on (rw (equal_size (told.header a on)) has);
    lists = rw (← told.keep) lists_runs;
    unrefused = λ roots rooted. collect_succeeds told.stands rooted;
    room = allot_answers;
    long = told.long;
    keep = told.keep;
    lent = told.stands.lent;
  }
