-- Laws of an answer: its ways out, and its length.
use Rattle.std.specs.Prelude.{ℕ, ◌*◌, ◌≤◌, ◌<◌, ◌≡◌, refl, ◌≢◌, length, take, drop, leb, eqb, Result, Ok, Err}
use Rattle.std.proofs.Math.Path.{sym, ap}
use Rattle.std.proofs.Common.{◌∙◌, subst, arith, length-append, take_at}
use mathlib.Core.List.{List, ◌++◌}
use borrow.Author.Tests.{le-leb, lt-leb, eqb-true, eq-eqb, ne_eqb}
use Rattle.layout.specs.LimitsLaws.{list_small}
use Rattle.layout.specs.RefusalLaws.{by_test}
use Rattle.layout.specs.SetUp.{Prepared, prepared, sets_up}
use Rattle.layout.specs.SetUp.{SetUp}
use Rattle.layout.specs.declared.State.{State}
use Rattle.collector.proofs.CollectLaws.{collects_words}
use Rattle.collector.specs.Collect.{Left, left, collects}
use Rattle.collector.specs.Collect.{Collected}
use Rattle.freelist.specs.Records.{records}
use Rattle.freelist.specs.RecordsLaws.{length-records}
use Rattle.freelist.specs.declared.figures.Figures.{Figures}
use Rattle.store.specs.Survey.{surveys}
use Rattle.store.proofs.SurveyLaws.{Surveyable, surveyable}
use Rattle.store.specs.Survey.{Surveyed}
use Rattle.image.specs.Ascii.{ascii}
use Rattle.image.specs.SoFar.{wrong_line, shows_text}
use Rattle.image.specs.Image.{max_heap, Text, right, wrong, text_of}
use Rattle.image.specs.TextLaws.{text_right}
use Rattle.image.specs.declared.reading.WrongText.{WrongText}
use Rattle.image.specs.declared.so_far.SoFar.{SoFar}
use Rattle.report.specs.Answer.{code_lines, count_lines, lines_after, image_lines_in, clear_map, clear_stack, clear_list, image_lines, answer_to, answer, answer_room, Output, output, reports}
use Rattle.report.specs.Printed.{free_lines}
use Rattle.report.specs.Puts.{puts}
use Rattle.report.specs.PutsLaws.{puts_fits}
use Rattle.report.specs.PrintedLaws.{decimals_short, frees_short}

-- Once set-up and collection have answered, what is printed goes by the answer and the list.
pub image_answered : (heap : List ℕ) (t : ℕ) (roots : List ℕ) {fresh : SetUp} {map list : List ℕ} → prepared fresh map list ≡ sets_up heap t clear_map clear_list
    → {found : Collected} {map' stack' list' : List ℕ} → left found map' stack' list' ≡ collects fresh.state heap roots map clear_stack list → lines_after found list' ≡ image_lines heap t roots
unfolding image_lines image_lines_in
image_answered heap t roots e f = rw (← e, ← f)

-- The ways out, once a collection has answered.
module _ (found : Collected) (list : List ℕ) where
  -- A refused one has its two lines.
  pub refuses_collection : found.code ≢ 0 → code_lines found.code found.place ≡ lines_after found list
  unfolding lines_after
  refuses_collection some = rw (ne_eqb found.code 0 some)

  module _ (none : found.code ≡ 0) {s : Surveyed} (q : s ≡ surveys found.state list) where
    -- A refused survey has two lines too.
    pub refuses_survey : s.code ≢ 0 → code_lines s.code 0 ≡ lines_after found list
    unfolding lines_after
    refuses_survey some = rw (← q, eq-eqb found.code 0 none, ne_eqb s.code 0 some)

    module _ (fine : s.code ≡ 0) where
      -- Else all is counted, and each interval has its line.
      pub counts_all : count_lines found s.figures ++ free_lines (records found.state.count list) ≡ lines_after found list
      unfolding lines_after
      counts_all = rw (← q, eq-eqb found.code 0 none, eq-eqb s.code 0 fine)

      -- The intervals are in the list.
      pub records_lie : 2 * found.state.count ≤ length list
      records_lie = let k = surveyable found.state list (rw q at fine) in omega arith

-- Counts and figures, 9 lines of at most 32 bytes, have at most 288.
count_short : (c : Collected) (f : Figures) → length (count_lines c f) ≤ 288
unfolding count_lines ascii
count_short c f =
    simp length-append
    (omega (arith, decimals_short 0, decimals_short c.objects, decimals_short c.live, decimals_short c.references, decimals_short c.peak, decimals_short f.listed, decimals_short f.largest, decimals_short f.fragment))

-- In a heap of at most 4,096 words a survey lets at most 4,095 intervals pass, of 15 bytes each at most.
lines_short : (state : State) (list : List ℕ) → state.words ≤ max_heap → Surveyable state list → length (free_lines (records state.count list)) ≤ 61425
lines_short state list small k = omega (arith, list_small state.words state.keep, length-records state.count list, frees_short (omega arith) k.order)

-- All lines of a success fit in the room for an answer.
all_fit : (c : Collected) (f : Figures) (list : List ℕ) → c.state.words ≤ max_heap → Surveyable c.state list → length (count_lines c f ++ free_lines (records c.state.count list)) ≤ answer_room
all_fit c f list small k = omega (arith, length-append (count_lines c f) (free_lines (records c.state.count list)), count_short c f, lines_short c.state list small k)

-- So do those of a refusal.
code_fits : (code place : ℕ) → length (code_lines code place) ≤ answer_room
unfolding ascii
code_fits code place = simp length-append (omega (arith, decimals_short code, decimals_short place))

-- So do the lines that come after any collection, if one that ends with 0 leaves a state of at most 4,096 words.
lines_fit : (c : Collected) (list : List ℕ) → (c.code ≡ 0 → c.state.words ≤ max_heap) → length (lines_after c list) ≤ answer_room
unfolding lines_after
lines_fit c list small =
    let s : Surveyed = surveys c.state list in
    let Fits : List ℕ → Type 0 = λ lines. length lines ≤ answer_room in
    by_test Fits (eqb c.code 0)
    (λ none. by_test Fits (eqb s.code 0)
    (λ fine. all_fit c s.figures list (small (eqb-true c.code 0 none)) (surveyable c.state list (eqb-true s.code 0 fine)))
    (λ _. code_fits s.code 0))
    (λ _. code_fits c.code c.place)

-- So does the answer to an image of at most 4,096 words.
image_fits : (heap : List ℕ) (t : ℕ) (roots : List ℕ) → length heap ≤ max_heap → length (image_lines heap t roots) ≤ answer_room
unfolding image_lines image_lines_in
image_fits heap t roots small =
    let fresh : Prepared = sets_up heap t clear_map clear_list in
    let c : Left = collects fresh.answer.state heap roots fresh.map clear_stack fresh.list in
    lines_fit c.answer c.list (λ none. omega (arith, collects_words fresh.answer.state heap roots fresh.map clear_stack fresh.list none))

-- The heap of an image has at most 4,096 words, so the answer to any text fits.
pub answer_fits : (text : List ℕ) → length (answer text) ≤ answer_room
unfolding answer
answer_fits text = go (text_of text) refl
  where
    go : (t : Text) → text_of text ≡ t → length (answer_to t) ≤ answer_room
    go (right image) e = image_fits image.heap image.keep image.roots (text_right text image e).0.heap_most
    go (wrong line) e = code_fits 12 line

-- What reading a text has found tells its answer.
module _ (text roots heap : List ℕ) {found : Result SoFar WrongText} (e : shows_text found roots heap ≡ text_of text) where
  -- A wrong line has its number printed.
  pub answer_wrong : {why : WrongText} → found ≡ Err why → code_lines 12 (wrong_line why) ≡ answer text
  unfolding answer
  answer_wrong told = ap answer_to (ap (λ (f : Result SoFar WrongText). shows_text f roots heap) (sym told) ∙ e)

  -- An image is collected.
  pub answer_right : {b : SoFar} → found ≡ Ok b → image_lines (take b.words heap) b.keep (take b.roots roots) ≡ answer text
  unfolding answer
  answer_right told = ap answer_to (ap (λ (f : Result SoFar WrongText). shows_text f roots heap) (sym told) ∙ e)

-- The ways out, where the text was read.
module _ (text out : List ℕ) where
  -- In too short a buffer nothing is written.
  pub reports_short : length out < answer_room → output 0 out ≡ reports text out
  unfolding reports
  reports_short short = rw (lt-leb answer_room (length out) short)

  -- Else the lines that were written from the front on are the answer.
  pub reports_written : answer_room ≤ length out → {count : ℕ} {after lines : List ℕ} → output count after ≡ puts 0 lines out → lines ≡ answer text → output count after ≡ reports text out
  unfolding reports
  reports_written enough e all = e ∙ ap (λ (l : List ℕ). puts 0 l out) all ∙ puts_fits (answer text) out (omega (arith, answer_fits text)) ∙ sym (rw (le-leb answer_room (length out) enough))

-- In a buffer that is long enough the answer is whole.
pub reports_front : (text out : List ℕ) → answer_room ≤ length out → take (reports text out).count (reports text out).out ≡ answer text
unfolding reports
reports_front text out enough = rw (le-leb answer_room (length out) enough) (take_at (answer text) (drop (length (answer text)) out) (length (answer text)) refl)

-- What is answered is no more than there is in the buffer.
pub reports_inside : (text out : List ℕ) {count : ℕ} {after : List ℕ} → output count after ≡ reports text out → count ≤ length after
unfolding reports
reports_inside text out e =
    subst (λ (w : Output). w.count ≤ length w.out) (sym e)
    (by_test (λ (w : Output). w.count ≤ length w.out) (leb answer_room (length out)) (λ _. omega (arith, length-append (answer text) (drop (length (answer text)) out))) (λ _. omega arith))
