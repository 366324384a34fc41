-- Demand 1 holds of set-up, survey, read and write.
use Rattle.std.specs.Prelude.{ℕ, ◌-◌, ◌≤◌, ◌≡◌, refl, Bool, ◌&&◌, List, [], ◌∷◌, length, take, replicate, leb, ltb, eqb}
use Rattle.std.proofs.Math.ListN.{length-set}
use Rattle.words.specs.Header.{size_at, well_formed}
use Rattle.words.specs.Map.{is_start}
use Rattle.layout.specs.Intervals.{shown}
use Rattle.layout.specs.Limits.{within, suits, map_words, list_words}
use Rattle.layout.specs.LimitsLaws.{limits, two_fit}
use Rattle.layout.specs.RefusalLaws.{by_test}
use Rattle.layout.specs.SetUp.{Prepared, first_list, sets_up}
use Rattle.layout.specs.declared.State.{State}
use Rattle.runs.proofs.FreeListLaws.{list_first, list_fits}
use Rattle.freelist.specs.Records.{valid_list}
use Rattle.split.specs.RelistedLaws.{length-shown}
use Rattle.store.specs.Fields.{object_code, field_code, word_of, reads, takes, Written, writes}
use Rattle.store.specs.Survey.{surveys}
use Rattle.demands.specs.Demand1.{Kept, Refuses, SetUpEnds, ReadEnds, WriteEnds, SurveyEnds}
use Rattle.demands.proofs.RefusesLaws.{kept_same, kept_front, kept_clear, success, refuses_unless, refuses_by}

-- Set-up's list, shown with zeros behind it, fills its needed part.
pub first_long : (heap : List ℕ) (t : ℕ) → 1 ≤ t → let n : ℕ = list_words (length heap) t in length (shown n (first_list (length heap) t)) ≡ n
first_long heap t keeps =
    length-shown (list_words (length heap) t) (first_list (length heap) t) (rw (list_first t heap 0) at (list_fits t heap (replicate 0 0) keeps))

-- Set-up.
module _ (heap : List ℕ) (t : ℕ) (map list : List ℕ) where
  -- How many words the heap has.
  abbrev h : ℕ
  h = length heap

  -- The test for 2.
  abbrev long : Bool
  long = leb (map_words h) (length map) && leb (list_words h t) (length list)

  -- What is kept of map and list.
  abbrev SetUpKeeps : Prepared → Type 0
  SetUpKeeps r = Kept (map_words h) map r.map × Kept (list_words h t) list r.list

  -- It is kept, refused or not.
  set_up_keeps : SetUpKeeps (sets_up heap t map list)
  unfolding sets_up
  set_up_keeps =
      by_test SetUpKeeps (within h t) (λ ok. by_test SetUpKeeps long (λ enough.
      let x = two_fit map list enough in
      (kept_clear map x.0, kept_front (shown (list_words h t) (first_list h t)) list (first_long heap t (limits h t ok).keeps) x.1))
      (λ short. (kept_same, kept_same))) (λ out. (kept_same, kept_same))

  -- Every set-up ends as demand 1 says.
  pub set_up_ends : SetUpEnds heap t map list (sets_up heap t map list)
  unfolding sets_up
  set_up_ends = record { refuses = refuses_unless (λ n. refl) (within h t) 1 (refuses_unless (λ n. refl) long 2 (success refl)); keeps_map = set_up_keeps.0; keeps_list = set_up_keeps.1 }

-- Every survey ends so.
pub survey_ends : (state : State) (list : List ℕ) → SurveyEnds (surveys state list)
unfolding surveys
survey_ends state list =
    let h : ℕ = state.words in
    let t : ℕ = state.keep in
    let n : ℕ = list_words h t in
    refuses_unless (λ n. refl) (within h t) 1
    (refuses_unless (λ n. refl) (leb n (length list)) 2
    (refuses_unless (λ n. refl) (valid_list h t state.count (take n list)) 3
    (success refl)))

-- Read and write.
module _ (state : State) (heap map : List ℕ) (a k : ℕ) where
  -- The number of a field is one of these, or 0.
  field_refuses : Refuses (λ n. n) (λ n. n) (1 ∷ 2 ∷ 9 ∷ 5 ∷ 10 ∷ []) (field_code state heap map a k)
  unfolding field_code object_code
  field_refuses =
      refuses_unless (λ n. refl) (suits state heap) 1
      (refuses_unless (λ n. refl) (leb (map_words state.words) (length map)) 2
      (refuses_unless (λ n. refl) (is_start (length heap) map a) 9
      (refuses_unless (λ n. refl) (well_formed heap state.keep a) 5
      (refuses_unless (λ n. refl) (ltb k (size_at heap a - 1)) 10
      (success refl)))))

  -- Every read ends so.
  pub read_ends : ReadEnds (reads state heap map a k)
  unfolding reads
  read_ends = refuses_by (λ n. refl) field_refuses (success refl)

  module _ (v : ℕ) where
    -- The heap has its length still.
    abbrev Long : Written → Type 0
    Long r = length r.heap ≡ length heap

    -- Every write does.
    pub write_ends : WriteEnds heap (writes state heap map a k v)
    unfolding writes
    write_ends = record {
      refuses = refuses_by (λ n. refl) field_refuses (refuses_unless (λ n. refl) (takes heap map a k v) 11 (success refl));
      keeps_heap = by_test Long (eqb (field_code state heap map a k) 0) (λ none. by_test Long (takes heap map a k v) (λ taken. length-set heap (word_of a k) v) (λ not_taken. refl)) (λ some. refl);
    }
