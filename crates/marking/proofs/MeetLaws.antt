-- Laws of meeting a reference.
use Rattle.std.specs.Prelude.{ℕ, ◌+◌, ◌-◌, ◌≤◌, ◌<◌, ◌≡◌, ◌≢◌, ◌↔◌, true, false, List, length, ltb, eqb}
use mathlib.Mathlib.Data.Bool.Basic.{eq-false_of_not-eq-true}
use Rattle.std.proofs.Common.{arith}
use borrow.Author.Tests.{eq-eqb, ne_eqb, lt-ltb, le-ltb, eqb-true, eqb-false, ltb-true, ltb-false}
use Rattle.words.specs.Header.{size_at, well_formed}
use Rattle.words.proofs.HeaderLaws.{Formed}
use Rattle.words.specs.Map.{bit_at, some_below, covered}
use Rattle.words.proofs.CoverLaws.{some_below_lem, below_some}
use Rattle.layout.specs.RefusalLaws.{by_test}
use Rattle.runs.specs.Runs.{free_list}
use Rattle.runs.specs.Covers.{Free}
use Rattle.runs.specs.Lists.{Holds}
use Rattle.runs.proofs.LongestLaws.{clash}
use Rattle.runs.proofs.FreeListLaws.{list_holds}
use Rattle.marking.specs.Marking.{Marking, Outcome, overlaps, meet}
use Rattle.marking.specs.Meets.{New, Meets, empty, outside, again, ill_formed, overlapping, apart}

-- An object that overlaps one on the map has a covered word.
pub overlaps_some : (heap map : List ℕ) (r : ℕ) → overlaps heap map r ≡ true → (w : ℕ) × (r ≤ w) × (w < r + size_at heap r) × (covered heap map w ≡ true)
unfolding overlaps
overlaps_some heap map r e =
    let x = below_some _ (λ i. covered heap map (r + i)) e in
    (r + x.0, omega arith, omega (arith, x.1), x.2)

-- An object overlaps none on the map if and only if all its words are free.
pub overlaps_none : (heap map : List ℕ) (r : ℕ) → (overlaps heap map r ≡ false) ↔ Free (covered heap map) r (r + size_at heap r)
unfolding overlaps
overlaps_none heap map r = (free, none)
  where
    s : ℕ
    s = size_at heap r

    free : some_below s (λ i. covered heap map (r + i)) ≡ false → Free (covered heap map) r (r + s)
    free e w lo hi = eq-false_of_not-eq-true λ c.
        let x : r + (w - r) ≡ w = omega arith in
        clash (some_below_lem s (λ i. covered heap map (r + i)) (w - r) (omega arith) (rw x c)) e

    none : Free (covered heap map) r (r + s) → some_below s (λ i. covered heap map (r + i)) ≡ false
    none g = eq-false_of_not-eq-true λ e. let x = overlaps_some heap map r e in clash x.3 (g x.0 x.1 x.2)

-- The search for its words in the list is the overlap test.
pub overlaps_holds : (heap : List ℕ) (t : ℕ) (map : List ℕ) (r : ℕ) → 1 ≤ t → r ≢ 0 → Formed heap t r → (overlaps heap map r ≡ false) ↔ Holds (free_list t heap map) r (size_at heap r)
overlaps_holds heap t map r keeps some f =
    let x = overlaps_none heap map r in
    let y = list_holds t heap map keeps r (size_at heap r) f.least (omega arith) f.ends in
    (λ e. y.0 (x.0 e), λ g. x.1 (y.1 g))

module _ {heap : List ℕ} {t : ℕ} {m : Marking} {r : ℕ} where
  -- Each reason gives what the machine answers.
  pub meets_meet : {o : Outcome} → Meets heap t m r o → o ≡ meet heap t m r
  unfolding meet
  meets_meet (empty e) = rw (eq-eqb r 0 e)
  meets_meet (outside some l) = rw (ne_eqb r 0 some, le-ltb r (length heap) l)
  meets_meet (again some l e) = rw (ne_eqb r 0 some, lt-ltb r (length heap) l, e)
  meets_meet (ill_formed new e) = rw (ne_eqb r 0 new.some, lt-ltb r (length heap) new.inside, new.unmarked, e)
  meets_meet (overlapping new well e) = rw (ne_eqb r 0 new.some, lt-ltb r (length heap) new.inside, new.unmarked, well, e)
  meets_meet (apart new well e) = rw (ne_eqb r 0 new.some, lt-ltb r (length heap) new.inside, new.unmarked, well, e)

-- The machine's answer has its reason.
pub meet_meets : (heap : List ℕ) (t : ℕ) (m : Marking) (r : ℕ) → Meets heap t m r (meet heap t m r)
unfolding meet
meet_meets heap t m r =
    by_test (Meets heap t m r) (eqb r 0) (λ e. empty (eqb-true r 0 e)) λ none.
    let some : r ≢ 0 = eqb-false r 0 none in
    by_test (Meets heap t m r) (ltb r (length heap)) (λ below.
    let l : r < length heap = ltb-true r (length heap) below in
    by_test (Meets heap t m r) (bit_at m.map r) (again some l) λ unmarked.
    let new : New heap m.map r = record { some = some; inside = l; unmarked = unmarked } in
    by_test (Meets heap t m r) (well_formed heap t r) (λ well. by_test (Meets heap t m r) (overlaps heap m.map r) (overlapping new well) (apart new well)) (ill_formed new))
    (λ e. outside some (ltb-false r (length heap) e))
