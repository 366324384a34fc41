-- Demand 1 holds of collect.
use Rattle.std.specs.Prelude.{ℕ, ◌*◌, ◌≤◌, ◌≡◌, refl, ◌≢◌, ◌↔◌, length}
use mathlib.Core.List.Memᴰ
use mathlib.Core.List.{List, [], ◌∷◌, Memᴰ}
use Rattle.std.proofs.Common.{arith}
use Rattle.layout.specs.Intervals.{shown}
use Rattle.layout.specs.Limits.{map_words, list_words}
use Rattle.layout.specs.LimitsLaws.{suits_limits}
use Rattle.layout.specs.declared.Interval.{Interval}
use Rattle.layout.specs.declared.State.{State}
use Rattle.runs.specs.Runs.{free_list}
use Rattle.runs.proofs.FreeListLaws.{list_fits}
use Rattle.split.specs.RelistedLaws.{length-shown}
use Rattle.marking.specs.Marking.{Marking, Outcome, going, done, refused, collection}
use Rattle.collector.specs.Collect.{Left, settled, settles, collects_in, collects}
use Rattle.demands.specs.Reach.{Fault}
use Rattle.demands.specs.Lent.{Bounded, Lent}
use Rattle.demands.specs.Demand1.{lent_refused, marking_refused, CollectEnds}
use Rattle.demands.specs.Tracks.{Told}
use Rattle.demands.proofs.TracksLaws.{collection_told}
use Rattle.demands.proofs.ReachLaws.{fault_number, fault_above}
use Rattle.demands.proofs.RefusesLaws.{kept_same, kept_front, kept_clear, success, refusal}
use Rattle.demands.proofs.LentLaws.{joined, lent_cases}

module _ (state : State) (heap roots map stack list : List ℕ) where
  -- How many words the heap has.
  abbrev h : ℕ
  h = state.words

  -- The keep length.
  abbrev t : ℕ
  t = state.keep

  -- What is lent is within the limits, and long enough.
  abbrev Given : Type 0
  Given = Lent state heap roots map stack list

  -- What demand 1 says of an outcome.
  abbrev Ends : Left → Type 0
  Ends = CollectEnds state heap roots map stack list

  -- A collection that is refused for what was lent ends so, if its number is the right one.
  ends_unlent : {n : ℕ} → ¬ Given → (n ≡ 1) ↔ ¬ Bounded state heap roots → (n ≡ 2) ↔ Bounded state heap roots × ¬ Given → Memᴰ n (1 ∷ 2 ∷ []) → n ≢ 0 → Ends (lent_refused state map stack list n)
  ends_unlent none is_one is-two m some = record {
    one = is_one;
    two = is-two;
    unlent = λ e. refusal (λ n. refl) m;
    fails = λ given. absurd (none given);
    numbers = λ _. Memᴰ.append_left (4 ∷ 5 ∷ 6 ∷ []) m;
    succeeds = λ z. absurd (some z);
    keeps_map = kept_same;
    keeps_stack = kept_same;
    keeps_list = kept_same;
  }

  module _ (given : Given) where
    -- The heap has the state's words.
    same : length heap ≡ h
    same = (suits_limits state heap given.bounded.suit).1

    -- A collection that is refused while marking ends so.
    ends_failed : {n place : ℕ} → Fault heap t roots n place → Ends (marking_refused state map stack list place n)
    ends_failed f = record {
      one = (λ e. absurd (omega (arith, fault_above f)), λ out. absurd (out given.bounded));
      two = (λ e. absurd (omega (arith, fault_above f)), λ x. absurd (x.1 given));
      unlent = λ none. absurd (none given);
      fails = λ g some. refusal (λ n. refl) (fault_number f);
      numbers = λ some. Memᴰ.append_right (1 ∷ 2 ∷ []) (fault_number f);
      succeeds = λ z. absurd (omega (arith, fault_above f));
      keeps_map = kept_clear map given.map_room;
      keeps_stack = kept_clear stack given.stack_room;
      keeps_list = kept_clear list given.list_room_lem;
    }

    -- A collection that succeeds ends so.
    ends_settled : (m : Marking) → length m.map ≡ map_words (length heap) → Ends (joined state map stack list (settled heap t m))
    ends_settled m long =
        let free : List Interval = free_list t heap m.map in
        let fits : 2 * length free ≤ list_words h t = rw same at (list_fits t heap m.map (suits_limits state heap given.bounded.suit).0.keeps) in
        rw same record {
          one = (λ e. absurd (omega arith), λ out. absurd (out given.bounded));
          two = (λ e. absurd (omega arith), λ x. absurd (x.1 given));
          unlent = λ none. absurd (none given);
          fails = λ g. success refl;
          numbers = λ some. absurd (some refl);
          succeeds = λ z. record { nowhere = refl; words = refl; keep = refl; stack_clear = refl };
          keeps_map = kept_front m.map map (rw same at long) given.map_room;
          keeps_stack = kept_clear stack given.stack_room;
          keeps_list = kept_front (shown (list_words h t) free) list (length-shown (list_words h t) free fits) given.list_room_lem;
        }

    -- It ends so by what marking comes to.
    ends_by : (o : Outcome) → Told heap t roots o → Ends (joined state map stack list (settles heap t o))
    ends_by (going m) g = ends_settled m g.marked.sized
    ends_by (done m) g = ends_settled m g.marked.sized
    ends_by (refused c r) f = rw same (ends_failed f)

  -- Every collection ends as demand 1 says.
  pub collect_ends : CollectEnds state heap roots map stack list (collects state heap roots map stack list)
  unfolding collects_in
  collect_ends =
      lent_cases state heap roots map stack list Ends (λ given. ends_by given (collection heap t roots) (collection_told heap t roots))
      (λ out. ends_unlent (λ given. out given.bounded) (λ _. out, λ _. refl) (λ e. absurd (omega arith), λ x. absurd (out x.0)) (Memᴰ.head refl) (λ e. omega arith))
      (λ ok none. ends_unlent none (λ e. absurd (omega arith), λ out. absurd (out ok)) (λ _. (ok, none), λ _. refl) (Memᴰ.tail (Memᴰ.head refl)) (λ e. omega arith))
