-- Laws of a survey.
use Rattle.std.specs.Prelude.{ℕ, ◌*◌, ◌≤◌, ◌<◌, ◌≡◌, ◌≢◌, Bool, true, false, List, length, take, leb}
use Rattle.std.proofs.Common.{sym, ◌∙◌, arith, length-take-le, lit<}
use borrow.Author.Tests.{le-leb, lt-leb, leb-true}
use Rattle.layout.specs.Limits.{within, list_words, rooms_of}
use Rattle.layout.specs.LimitsLaws.{limits, map_zero, allowed, list_needs}
use Rattle.layout.specs.RefusalLaws.{no_refusal}
use Rattle.layout.specs.declared.Rooms.{Rooms}
use Rattle.layout.specs.declared.State.{State}
use Rattle.runs.specs.Lists.{listed, Ordered}
use Rattle.runs.proofs.SumLaws.{ordered_listed}
use Rattle.freelist.specs.Figures.{figures_of}
use Rattle.freelist.specs.Records.{records, valid_list}
use Rattle.freelist.specs.RecordsLaws.{records_part, valid_ordered}
use Rattle.freelist.specs.declared.figures.Figures.{Figures}
use Rattle.store.specs.Survey.{Surveyed, survey_refused, surveys}

-- The ways out, where the room figures are worked out.
module _ (state : State) (list : List ℕ) {rooms : Rooms} (e : rooms ≡ rooms_of state.words state.keep) where
  -- Out of the limits it refuses with 1.
  pub survey_limits : rooms.map ≡ 0 → survey_refused 1 ≡ surveys state list
  unfolding surveys
  survey_limits none = rw (map_zero state.words state.keep e none)

  module _ (some : rooms.map ≢ 0) where
    room : rooms.list ≡ list_words state.words state.keep
    room = list_needs state.words state.keep e some

    -- With a short list it refuses with 2.
    pub survey_short : length list < rooms.list → survey_refused 2 ≡ surveys state list
    unfolding surveys
    survey_short short = rw (allowed state.words state.keep e some, ← room, lt-leb rooms.list (length list) short)

    module _ (long : rooms.list ≤ length list) where
      -- Else the list's needed part is there, and it decides.
      abbrev part : List ℕ
      part = take rooms.list list

      pub survey_part : length part ≡ list_words state.words state.keep
      survey_part = length-take-le rooms.list list long ∙ room

      module _ {valid : Bool} (v : valid ≡ valid_list state.words state.keep state.count part) where
        -- A bad one it refuses with 3.
        pub survey_list : valid ≡ false → survey_refused 3 ≡ surveys state list
        unfolding surveys
        survey_list bad = rw (allowed state.words state.keep e some, ← room, le-leb rooms.list (length list) long, ← v, bad)

        -- Of any other the figures can be had, and are its answer.
        module _ (good : valid ≡ true) where
          pub survey_asks : (2 * state.count ≤ length part) × (listed (records state.count part) < 65536)
          survey_asks =
              let o = valid_ordered state.words state.keep state.count part (sym v ∙ good) in
              (omega (arith, o.0, survey_part), omega (arith, ordered_listed o.1, limits state.words state.keep (allowed state.words state.keep e some)))

          pub survey_figures : {f : Figures} → f ≡ figures_of (records state.count part) → record { code = 0; figures = f } ≡ surveys state list
          unfolding surveys
          survey_figures q = rw (allowed state.words state.keep e some, ← room, le-leb rooms.list (length list) long, ← v, good, q)

-- What a survey that is not refused tells of a state and its list.
pub record Surveyable (state : State) (list : List ℕ) : Type 0 where
  pub room : 2 * state.count ≤ list_words state.words state.keep
  pub long : list_words state.words state.keep ≤ length list
  pub order : Ordered state.keep 1 state.words 1 (records state.count list)

-- Its three tests tell it.
pub surveyable : (state : State) (list : List ℕ) → (surveys state list).code ≡ 0 → Surveyable state list
unfolding surveys
surveyable state list e =
    let h : ℕ = state.words in
    let t : ℕ = state.keep in
    let n : ℕ = list_words h t in
    let x = no_refusal (λ (s : Surveyed). s.code) (within h t) _ _ (lit< tt) e in
    let y = no_refusal (λ (s : Surveyed). s.code) (leb n (length list)) _ _ (lit< tt) x.1 in
    let z = no_refusal (λ (s : Surveyed). s.code) (valid_list h t state.count (take n list)) _ _ (lit< tt) y.1 in
    let o = valid_ordered h t state.count (take n list) z.0 in
    record { room = o.0; long = leb-true n (length list) y.0; order = rw (records_part state.count n list o.0) at o.1 }
