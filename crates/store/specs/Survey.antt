-- A survey, as one function from what it is lent to its answer.
use Rattle.std.specs.Prelude.{ℕ, List, length, take, leb, Result, Ok, Err}
use Rattle.layout.specs.Limits.{within, list_words}
use Rattle.layout.specs.Refusal.{unless, number}
use Rattle.layout.specs.declared.refusal.Refusal.{Refusal}
use Rattle.layout.specs.declared.State.{State}
use Rattle.freelist.specs.Records.{records, valid_list}
use Rattle.freelist.specs.Figures.{figures_of}
use Rattle.freelist.specs.declared.figures.Figures.{Figures}

-- What a survey answers: the refusal's number or 0, and the figures.
pub record Surveyed : Type 0 where
  pub code : ℕ
  pub figures : Figures

-- A refused survey has its number, and 0 for each figure.
abbrev pub survey_refused : ℕ → Surveyed
survey_refused n = record { code = n; figures = record { listed = 0; largest = 0; fragment = 0 } }

-- The answer in these numbers.
abbrev pub survey_told : Result Figures Refusal → Surveyed
survey_told (Ok figures) = record { code = 0; figures = figures }
survey_told (Err refusal) = survey_refused (number refusal)

-- A survey: the figures of the intervals in the list's needed part, with refusals 1, 2 and 3 before.
unfoldable pub surveys : State → List ℕ → Surveyed
surveys state list =
    let h : ℕ = state.words in
    let t : ℕ = state.keep in
    let n : ℕ = list_words h t in
    unless (within h t) (survey_refused 1)
    (unless (leb n (length list)) (survey_refused 2)
    (unless (valid_list h t state.count (take n list)) (survey_refused 3)
    (record { code = 0; figures = figures_of (records state.count (take n list)) })))
