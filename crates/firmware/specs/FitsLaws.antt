-- Every number that a call answers with stands in a word, if those that it was lent do.
use Prim.Native.Nat.{ℕ, ◌-◌, ◌≤◌}
use Rattle.std.specs.Prelude.{◌≡◌, ◌&&◌, List, length, take, leb, eqb, Option, Some, None}
use Rattle.std.proofs.Math.Path.{refl}
use Rattle.std.proofs.Common.{sym, subst, arith, length-take-le, lit<, leb-true, eqb-true}
use Rattle.std.proofs.Math.Bool.{and-eq-true_iff}
use Rattle.layout.specs.Limits.{max_roots, within, suits, map_words, stack_words, list_words}
use Rattle.layout.specs.LimitsLaws.{Limits, limits, suits_limits, two_fit, list_small}
use Rattle.layout.specs.RefusalLaws.{by_test}
use Rattle.layout.specs.SetUp.{SetUp, Prepared, prepared, first_list, sets_up}
use Rattle.layout.specs.declared.Interval.{Interval}
use Rattle.layout.specs.declared.State.{State}
use Rattle.runs.specs.Lists.{listed}
use Rattle.runs.proofs.SumLaws.{ordered_listed}
use Rattle.marking.specs.Marking.{Marking, Outcome, going, done, refused, collection}
use Rattle.marking.specs.Numbers.{Word, Words, Counts, Numbers}
use Rattle.marking.proofs.NumbersLaws.{list_short, numbers}
use Rattle.freelist.specs.Figures.{fragment_of, figures_of}
use Rattle.freelist.specs.FiguresLaws.{largest_listed}
use Rattle.freelist.specs.Records.{records, valid_list}
use Rattle.freelist.specs.RecordsLaws.{valid_ordered}
use Rattle.freelist.specs.Search.{fitting}
use Rattle.collector.specs.Collect.{Collected, Left, left, collect_refused, settled, settles, collects_in, collects}
use Rattle.store.specs.Allot.{Allotted, Allotment, allotment, allot_refused, asked_code, placed, allots_in, allots, Parts}
use Rattle.store.proofs.AllotLaws.{Chosen, chosen, ends, front_room}
use Rattle.store.specs.Survey.{Surveyed, surveys}
use Rattle.firmware.specs.Fits.{StateFits, CollectedFits, AllottedFits, FiguresFit}

-- The state that set-up hands out.
sets_up_fits : (heap : List ℕ) (t : ℕ) (map list : List ℕ) → StateFits (sets_up heap t map list).answer.state
unfolding sets_up first_list
sets_up_fits heap t map list =
    let Fit : Prepared → Type 0 = λ x. StateFits x.answer.state in
    let none : StateFits (record { words = 0; keep = 0; count = 0 }) = record { words = lit< tt; keep = lit< tt; count = lit< tt } in
    by_test Fit (within (length heap) t) (λ ok.
    let l : Limits (length heap) t = limits (length heap) t ok in
    by_test Fit (leb (map_words (length heap)) (length map) && leb (list_words (length heap) t) (length list)) (λ long. record { words = omega (arith, l.words); keep = omega (arith, l.keep); count = by_test (λ (f : List Interval). Word (length f)) (leb t (length heap - 1)) (λ _. omega arith) (λ _. omega arith) }) (λ _. none)) (λ _. none)

-- So does the one that it has handed out.
pub set_up_fits : (heap : List ℕ) (t : ℕ) (map list : List ℕ) {fresh : SetUp} {map' list' : List ℕ} → prepared fresh map' list' ≡ sets_up heap t map list → StateFits fresh.state
set_up_fits heap t map list e = subst (λ (x : Prepared). StateFits x.answer.state) (sym e) (sets_up_fits heap t map list)

-- What a collection answers that is done.
settled_fits : (heap : List ℕ) (t : ℕ) (roots : List ℕ) → Limits (length heap) t → length roots ≤ max_roots → (m : Marking) → Counts heap roots m → CollectedFits (settled heap t m).answer
settled_fits heap t roots l few m n = record {
  place = lit< tt;
  objects = omega (arith, n.objects, l.words);
  live = omega (arith, n.live, l.words);
  references = omega (arith, n.references, l.words);
  peak = omega (arith, n.peak, l.words);
  state = record { words = omega (arith, l.words); keep = omega (arith, l.keep); count = omega (arith, list_short heap t m.map l.keeps, l.words) };
}

-- What a refused one answers, if the reference stands in a word.
refused_fits : {code place : ℕ} {state : State} → Word place → StateFits state → CollectedFits (collect_refused code place state)
refused_fits named s = record { place = named; objects = lit< tt; live = lit< tt; references = lit< tt; peak = lit< tt; state = s }

-- What a collection in the needed parts answers.
settles_fits : (heap : List ℕ) (t : ℕ) (roots : List ℕ) → Limits (length heap) t → length roots ≤ max_roots → (o : Outcome) → Numbers heap roots o → CollectedFits (settles heap t o).answer
settles_fits heap t roots l few (going m) n = settled_fits heap t roots l few m n
settles_fits heap t roots l few (done m) n = settled_fits heap t roots l few m n
settles_fits heap t roots l few (refused c r) n = refused_fits n (record { words = omega (arith, l.words); keep = omega (arith, l.keep); count = lit< tt })

-- What a collection answers.
collects_fits : (state : State) (heap roots map stack list : List ℕ) → StateFits state → Words heap → Words roots → CollectedFits (collects state heap roots map stack list).answer
unfolding collects collects_in
collects_fits state heap roots map stack list s heaped rooted =
    let Fit : Left → Type 0 = λ x. CollectedFits x.answer in
    let h : ℕ = state.words in
    let t : ℕ = state.keep in
    by_test Fit (suits state heap && leb (length roots) max_roots) (λ ok.
    let x = (and-eq-true_iff (suits state heap) _).0 ok in
    let own = suits_limits state heap x.0 in
    let l : Limits (length heap) t = rw own.1 own.0 in
    let few : length roots ≤ max_roots = leb-true (length roots) max_roots x.1 in
    by_test Fit (leb (map_words h) (length map) && leb (stack_words h t) (length stack) && leb (list_words h t) (length list))
    (λ _. settles_fits heap t roots l few (collection heap t roots) (numbers heap t l.keeps roots heaped rooted))
    (λ _. refused_fits (lit< tt) s)) (λ _. refused_fits (lit< tt) s)

-- So does what it has answered.
pub collect_fits : {state : State} (heap roots map stack list : List ℕ) → StateFits state → Words heap → Words roots → {found : Collected} {map' stack' list' : List ℕ} → left found map' stack' list' ≡ collects state heap roots map stack list → CollectedFits found
collect_fits {state} heap roots map stack list s heaped rooted e = subst (λ (x : Left). CollectedFits x.answer) (sym e) (collects_fits state heap roots map stack list s heaped rooted)

-- What an allot answers where an interval was chosen.
chosen_fits : {state : State} {heap map list : List ℕ} {s p j : ℕ} → Parts state heap map list → Chosen state heap map list s p j → AllottedFits (placed state heap map list s p (Some j)).answer
unfolding placed
chosen_fits {state} z x =
    let l : Limits state.words state.keep = x.ready.limits in
    record {
      address = omega (arith, ends x, x.ready.same, l.words);
      state = record { words = omega (arith, l.words); keep = omega (arith, l.keep); count = omega (arith, front_room x, z.list_size, list_small state.words state.keep, l.words) };
    }

-- What a refused one answers.
none_fits : {code : ℕ} {state : State} → StateFits state → AllottedFits (allot_refused code state)
none_fits s = record { address = lit< tt; state = s }

-- What an allot answers in the needed parts.
module _ (state : State) (fits : StateFits state) (heap map list : List ℕ) (s p : ℕ) where
  -- By what was found.
  placed_fits : Parts state heap map list → asked_code state.words state.keep state.count list s p ≡ 0 → (f : Option ℕ) → f ≡ fitting s (records state.count list) → AllottedFits (placed state heap map list s p f).answer
  unfolding placed
  placed_fits z none None e = none_fits fits
  placed_fits z none (Some j) e = chosen_fits z (chosen z s p refl none e refl)

  -- In every case.
  parts_fits : Parts state heap map list → AllottedFits (allots_in state heap map list s p).answer
  unfolding allots_in
  parts_fits z =
      let asked : ℕ = asked_code state.words state.keep state.count list s p in
      by_test (λ (x : Allotment). AllottedFits x.answer) (eqb asked 0) (λ none. placed_fits z (eqb-true asked 0 none) (fitting s (records state.count list)) refl) (λ _. none_fits fits)

-- What an allot answers.
allots_fits : (state : State) (heap map list : List ℕ) (s p : ℕ) → StateFits state → AllottedFits (allots state heap map list s p).answer
unfolding allots
allots_fits state heap map list s p fits =
    let Fit : Allotment → Type 0 = λ x. AllottedFits x.answer in
    let m : ℕ = map_words state.words in
    let n : ℕ = list_words state.words state.keep in
    by_test Fit (suits state heap) (λ suit. by_test Fit (leb m (length map) && leb n (length list)) (λ long.
    let x = two_fit map list long in
    parts_fits state fits heap (take m map) (take n list) s p (record { suit = suit; map_size = length-take-le m map x.0; list_size = length-take-le n list x.1 }))
    (λ _. none_fits fits)) (λ _. none_fits fits)

-- So does what it has answered.
pub allot_fits : {state : State} (heap map list : List ℕ) (s p : ℕ) → StateFits state → {made : Allotted} {heap' map' list' : List ℕ} → allotment made heap' map' list' ≡ allots state heap map list s p → AllottedFits made
allot_fits {state} heap map list s p fits e = subst (λ (x : Allotment). AllottedFits x.answer) (sym e) (allots_fits state heap map list s p fits)

-- The figures of a list with fewer words than 2^32.
figures_fit : (l : List Interval) → Word (listed l) → FiguresFit (figures_of l)
unfolding fragment_of
figures_fit l few = record {
  listed = few;
  largest = omega (arith, largest_listed l);
  fragment = by_test Word (eqb (listed l) 0) (λ _. lit< tt) (λ _. omega arith);
}

-- What a survey answers.
surveys_fit : (state : State) (list : List ℕ) → FiguresFit (surveys state list).figures
unfolding surveys
surveys_fit state list =
    let Fit : Surveyed → Type 0 = λ x. FiguresFit x.figures in
    let h : ℕ = state.words in
    let t : ℕ = state.keep in
    let n : ℕ = list_words h t in
    let none : FiguresFit (record { listed = 0; largest = 0; fragment = 0 }) = record { listed = lit< tt; largest = lit< tt; fragment = lit< tt } in
    by_test Fit (within h t) (λ ok. by_test Fit (leb n (length list)) (λ _. by_test Fit (valid_list h t state.count (take n list)) (λ valid.
    let o = valid_ordered h t state.count (take n list) valid in
    figures_fit (records state.count (take n list)) (omega (arith, ordered_listed o.1, (limits h t ok).words)))
    (λ _. none)) (λ _. none)) (λ _. none)

-- So does what it has answered.
pub survey_fits : (state : State) (list : List ℕ) {seen : Surveyed} → seen ≡ surveys state list → FiguresFit seen.figures
survey_fits state list e = rw e (surveys_fit state list)
