-- No call goes by the words past a needed part, and a collection goes by no word of its buffers.
use Prim.Native.Nat.{ℕ, ◌≤◌}
use Rattle.std.proofs.Math.Path.{◌≡◌}
use Rattle.std.specs.Prelude.{refl, Bool, false, ◌&&◌, cond, List, ◌++◌, take, drop, replicate, eqb}
use Rattle.std.proofs.Common.{sym, ap, ◌∙◌, arith, length-append, length-drop, take_at, lit<, eqb-true}
use Rattle.std.proofs.Math.Bool.{true}
use Rattle.std.proofs.Math.ListN.{length}
use Rattle.std.proofs.lemmas.List.{length-replicate}
use Rattle.std.proofs.Math.Seq.{length-take-le}
use Rattle.std.proofs.Math.Dec.{leb}
use Rattle.words.specs.Map.{is_start}
use Rattle.layout.specs.Intervals.{shown}
use Rattle.layout.specs.Limits.{within, suits, map_words, stack_words, list_words}
use Rattle.layout.specs.LimitsLaws.{limits, suits_limits, two_fit}
use Rattle.layout.specs.RefusalLaws.{no_refusal}
use Rattle.layout.specs.SetUp.{SetUp, prepared, first_list, sets_up}
use Rattle.layout.specs.declared.State.{State}
use Rattle.runs.proofs.CoverLaws.{start_take}
use Rattle.collector.specs.Collect.{Left, collects_in, collects}
use Rattle.store.specs.Allot.{Allotted, Allotment, allotment, allots_in, allots}
use Rattle.store.specs.Fields.{field_code, object_code, reads, takes, writes}
use Rattle.store.specs.Survey.{surveys}
use Rattle.demands.specs.Demand1.{CollectEnds}
use Rattle.demands.proofs.Demand1CollectHolds.{collect_ends}
use Rattle.demands.proofs.Demand1Holds.{first_long}
use Rattle.demands.proofs.Demand1AllotHolds.{parts_long}
use Rattle.demands.specs.Lent.{Lent}
use Rattle.demands.proofs.LentLaws.{in_parts, lent_parts}
use Rattle.demands.specs.Unread.{Alike, SetUpAlike, AllotAlike, needed_of}

-- Two choices by one test are related where their sides are, if taken.
by_tests : {A : Type 0} (R : A → A → Type 0) (test : Bool) {x y x' y' : A} → (test ≡ true → R x x') → (test ≡ false → R y y') → R (cond test x y) (cond test x' y')
by_tests R true p q = p refl
by_tests R false p q = q refl

-- The same words in front of what is past the first n words.
alike_front : {n : ℕ} {one other : List ℕ} (front : List ℕ) → length front ≡ n → Alike n one other → Alike n (front ++ drop n one) (front ++ drop n other)
alike_front {n} {one} {other} front e a = record {
  long = omega (arith, length-append front (drop n one), length-append front (drop n other), length-drop n one, length-drop n other, a.long);
  front = take_at front (drop n one) n e ∙ sym (take_at front (drop n other) n e);
}

-- Set-up.
module _ (heap : List ℕ) (t : ℕ) {map map' list list' : List ℕ} (am : Alike (map_words (length heap)) map map') (al : Alike (list_words (length heap) t) list list') where
  -- Refusals leave what came.
  set_up_came : (a : SetUp) → SetUpAlike (length heap) t (prepared a map list) (prepared a map' list')
  set_up_came a = record { answer = refl; map = am; list = al }

  -- It does not go by the words past the needed parts.
  pub set_up_unread : SetUpAlike (length heap) t (sets_up heap t map list) (sets_up heap t map' list')
  unfolding sets_up
  set_up_unread =
      let h : ℕ = length heap in
      let m : ℕ = map_words h in
      let n : ℕ = list_words h t in
      rw (am.long, al.long) (by_tests (SetUpAlike h t) (within h t) (λ ok. by_tests (SetUpAlike h t) (leb m (length map') && leb n (length list'))
      (λ long. record { answer = refl; map = alike_front (replicate m 0) (length-replicate m 0) am; list = alike_front (shown n (first_list h t)) (first_long heap t (limits h t ok).keeps) al })
      (λ short. set_up_came _)) (λ out. set_up_came _))

-- Allot.
module _ (state : State) (heap : List ℕ) {map map' list list' : List ℕ} (am : Alike (map_words state.words) map map') (al : Alike (list_words state.words state.keep) list list') (s p : ℕ) where
  -- Refusals leave what came.
  allot_came : (a : Allotted) → AllotAlike state (allotment a heap map list) (allotment a heap map' list')
  allot_came a = record { answer = refl; heap = refl; map = am; list = al }

  -- It does not go by the words past the needed parts.
  pub allot_unread : AllotAlike state (allots state heap map list s p) (allots state heap map' list' s p)
  unfolding allots
  allot_unread =
      let m : ℕ = map_words state.words in
      let n : ℕ = list_words state.words state.keep in
      let parts : Allotment = allots_in state heap (take m map') (take n list') s p in
      rw (am.long, al.long, am.front, al.front) (by_tests (AllotAlike state) (suits state heap) (λ ok. by_tests (AllotAlike state) (leb m (length map') && leb n (length list')) (λ enough.
      let x = two_fit map' list' enough in
      let map_size : length (take m map') ≡ m = length-take-le m map' x.0 in
      let list_size : length (take n list') ≡ n = length-take-le n list' x.1 in
      let y = parts_long state heap (take m map') (take n list') s p (record { suit = ok; map_size = map_size; list_size = list_size }) in
      record { answer = refl; heap = refl; map = alike_front parts.map (y.1 ∙ map_size) am; list = alike_front parts.list (y.2 ∙ list_size) al })
      (λ short. allot_came _)) (λ out. allot_came _))

-- Read and write.
module _ (state : State) (heap : List ℕ) {map map' : List ℕ} (am : Alike (map_words state.words) map map') where
  -- Starts on the one map are starts on the other.
  start_same : suits state heap ≡ true → (a : ℕ) → is_start (length heap) map a ≡ is_start (length heap) map' a
  start_same ok a =
      let same : length heap ≡ state.words = (suits_limits state heap ok).1 in
      let h : ℕ = state.words in
      rw same (sym (start_take h map a) ∙ ap (λ (k : List ℕ). is_start h k a) am.front ∙ start_take h map' a)

  module _ (a k : ℕ) where
    -- The number of a field is the same.
    field_same : field_code state heap map a k ≡ field_code state heap map' a k
    unfolding field_code object_code
    field_same = rw am.long (by_tests ◌≡◌ (suits state heap) (λ ok. rw (start_same ok a)) (λ out. refl))

    -- A read does not go by the words past the map's needed part.
    pub read_unread : reads state heap map a k ≡ reads state heap map' a k
    unfolding reads
    read_unread = rw field_same

    -- Nor does a write.
    pub write_unread : (v : ℕ) → writes state heap map a k v ≡ writes state heap map' a k v
    unfolding writes takes field_code
    write_unread v = rw field_same (by_tests ◌≡◌ (eqb (field_code state heap map' a k) 0) (λ none.
        let ok : suits state heap ≡ true = (no_refusal (λ (n : ℕ). n) (suits state heap) 1 _ (lit< tt) (eqb-true (field_code state heap map' a k) 0 none)).0 in
        rw (start_same ok v))
        (λ some. refl))

-- A survey does not go by the words past the list's needed part.
pub survey_unread : (state : State) {list list' : List ℕ} → Alike (list_words state.words state.keep) list list' → surveys state list ≡ surveys state list'
unfolding surveys
survey_unread state al = rw (al.long, al.front)

-- The words in front of those past the first n, in a buffer that keeps its length.
front_part : (n : ℕ) (front buffer : List ℕ) → n ≤ length buffer → length (front ++ drop n buffer) ≡ length buffer → take n (front ++ drop n buffer) ≡ front
front_part n front buffer l e = take_at front (drop n buffer) n (omega (arith, length-append front (drop n buffer), length-drop n buffer))

-- A collection goes by heap, keep length and roots alone: it forgets what stood in map, stack and list, and the state's count.
pub collect_forgets : (state : State) (heap roots map stack list : List ℕ) → Lent state heap roots map stack list → needed_of state (collects state heap roots map stack list) ≡ collects_in heap state.keep roots
collect_forgets state heap roots map stack list lent =
    let h : ℕ = state.words in
    let t : ℕ = state.keep in
    let parts : Left = collects_in heap t roots in
    let e : collects state heap roots map stack list ≡ in_parts state heap roots map stack list = lent_parts state heap roots map stack list lent in
    let ends : CollectEnds state heap roots map stack list (in_parts state heap roots map stack list) = rw e at (collect_ends state heap roots map stack list) in
    rw (e, front_part (map_words h) parts.map map lent.map_room ends.keeps_map.long, front_part (stack_words h t) parts.stack stack lent.stack_room ends.keeps_stack.long, front_part (list_words h t) parts.list list lent.list_room_lem ends.keeps_list.long) refl
