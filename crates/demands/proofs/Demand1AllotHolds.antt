-- Demand 1 holds of allot.
use Prim.Native.Nat.{ℕ}
use Rattle.std.specs.Prelude.{◌≡◌, Bool, ◌&&◌, List, [], ◌∷◌, take, leb, eqb, Option, Some, None}
use Rattle.std.proofs.Math.Path.{refl, ap}
use Rattle.std.proofs.Common.{◌∙◌, eqb-true}
use mathlib.Core.List.Memᴰ
use Rattle.std.proofs.Math.ListN.{length, take-append-drop}
use Rattle.std.proofs.Math.Seq.{length-take-le}
use Rattle.words.proofs.MapLaws.{length-set_bit}
use Rattle.layout.specs.Limits.{suits, map_words, list_words}
use Rattle.layout.specs.LimitsLaws.{two_fit}
use Rattle.layout.specs.RefusalLaws.{by_test}
use Rattle.layout.specs.declared.Interval.{Interval}
use Rattle.layout.specs.declared.State.{State}
use Rattle.runs.specs.Lists.{interval_at, without_front}
use Rattle.freelist.specs.Records.{records, valid_list}
use Rattle.freelist.specs.Search.{fitting}
use Rattle.split.specs.RelistedLaws.{length-relisted}
use Rattle.store.specs.Allot.{Allotment, allotment, allot_refused, askable, asked_code, placed, allots_in, allots, Parts}
use Rattle.store.proofs.AllotLaws.{joined, Chosen, chosen, ends, front_room}
use Rattle.store.proofs.ObjectLaws.{length-laid}
use Rattle.demands.specs.Demand1.{Kept, Refuses, AllotEnds}
use Rattle.demands.proofs.RefusesLaws.{kept_same, kept_front, success, refusal, refuses_unless, refuses_by}

-- The number of an allot's outcome.
abbrev code_of : Allotment → ℕ
code_of r = r.answer.code

-- What a refused allot leaves: state, heap, map and list as they came.
abbrev pub refuse : State → List ℕ → List ℕ → List ℕ → ℕ → Allotment
refuse state heap map list n = allotment (allot_refused n state) heap map list

-- In the needed parts of map and list.
module _ (state : State) (heap map list : List ℕ) (s p : ℕ) where
  -- The free intervals.
  abbrev l : List Interval
  l = records state.count list

  -- The number by the list and by what is asked.
  abbrev asked : ℕ
  asked = asked_code state.words state.keep state.count list s p

  -- It is 3 or 7, or 0.
  asked_refuses : Refuses (λ n. n) (λ n. n) (3 ∷ 7 ∷ []) asked
  unfolding asked_code
  asked_refuses =
      refuses_unless (λ n. refl) (valid_list state.words state.keep state.count list) 3
      (refuses_unless (λ n. refl) (askable state.keep s p) 7
      (success refl))

  -- Where no interval was chosen it is 8.
  placed_refuses : (f : Option ℕ) → Refuses code_of (refuse state heap map list) (8 ∷ []) (placed state heap map list s p f)
  unfolding placed
  placed_refuses None = λ some. refusal (λ n. refl) (Memᴰ.head refl)
  placed_refuses (Some j) = success refl

  -- So it is one of the three, or 0.
  parts_refuse : Refuses code_of (refuse state heap map list) (3 ∷ 7 ∷ 8 ∷ []) (allots_in state heap map list s p)
  unfolding allots_in
  parts_refuse = refuses_by (λ n. refl) asked_refuses (placed_refuses (fitting s l))

  -- Heap, map and list have the lengths that they had.
  abbrev Long : Allotment → Type 0
  Long r = (length r.heap ≡ length heap) × (length r.map ≡ length map) × (length r.list ≡ length list)

  -- They have them where an interval was chosen.
  chosen_long : {j : ℕ} → Chosen state heap map list s p j → Long (placed state heap map list s p (Some j))
  unfolding placed
  chosen_long {j} x =
      let n : ℕ = state.count in
      let k : ℕ = state.keep in
      let a : ℕ = (interval_at l j).start in
      (length-laid heap a s p x.ready.fewer (ends x), length-set_bit map a, length-relisted n (without_front k s l j) list x.ready.room (front_room x))

  -- They have them whatever was found.
  placed_long : Parts state heap map list → asked ≡ 0 → (f : Option ℕ) → f ≡ fitting s l → Long (placed state heap map list s p f)
  unfolding placed
  placed_long z none None e = (refl, refl, refl)
  placed_long z none (Some j) e = chosen_long (chosen z s p refl none e refl)

  -- They have them in every case.
  pub parts_long : Parts state heap map list → Long (allots_in state heap map list s p)
  unfolding allots_in
  parts_long z = by_test Long (eqb asked 0) (λ none. placed_long z (eqb-true asked 0 none) (fitting s l) refl) (λ some. (refl, refl, refl))

-- The whole call.
module _ (state : State) (heap map list : List ℕ) (s p : ℕ) where
  -- How many words are needed of the map.
  abbrev m : ℕ
  m = map_words state.words

  -- How many words are needed of the list.
  abbrev n : ℕ
  n = list_words state.words state.keep

  -- The test for 2.
  abbrev long : Bool
  long = leb m (length map) && leb n (length list)

  -- It refuses with one of its numbers, and then state, heap, map and list are as they came.
  allot_refuses : Refuses code_of (refuse state heap map list) (1 ∷ 2 ∷ 3 ∷ 7 ∷ 8 ∷ []) (allots state heap map list s p)
  unfolding allots
  allot_refuses = refuses_unless (λ n. refl) (suits state heap) 1 (refuses_unless (λ n. refl) long 2 λ some.
      let x = parts_refuse state heap (take m map) (take n list) s p some in
      record { number = x.number; whole = ap (joined state map list) x.whole ∙ rw (take-append-drop m map, take-append-drop n list) refl })

  -- What is kept of heap, map and list.
  abbrev AllotKeeps : Allotment → Type 0
  AllotKeeps r = (length r.heap ≡ length heap) × Kept m map r.map × Kept n list r.list

  -- It is kept, refused or not.
  allot_keeps : AllotKeeps (allots state heap map list s p)
  unfolding allots
  allot_keeps =
      by_test AllotKeeps (suits state heap) (λ ok. by_test AllotKeeps long (λ enough.
      let x = two_fit map list enough in
      let map_size : length (take m map) ≡ m = length-take-le m map x.0 in
      let list_size : length (take n list) ≡ n = length-take-le n list x.1 in
      let parts : Allotment = allots_in state heap (take m map) (take n list) s p in
      let y = parts_long state heap (take m map) (take n list) s p (record { suit = ok; map_size = map_size; list_size = list_size }) in
      (y.0, kept_front parts.map map (y.1 ∙ map_size) x.0, kept_front parts.list list (y.2 ∙ list_size) x.1))
      (λ short. (refl, kept_same, kept_same))) (λ out. (refl, kept_same, kept_same))

  -- Every allot ends as demand 1 says.
  pub allot_ends : AllotEnds state heap map list (allots state heap map list s p)
  allot_ends = record { refuses = allot_refuses; keeps_heap = allot_keeps.0; keeps_map = allot_keeps.1; keeps_list = allot_keeps.2 }
