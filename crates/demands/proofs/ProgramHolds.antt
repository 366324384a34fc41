-- What the text program prints for an image goes by what its roots reach.
use Rattle.std.specs.Prelude.{ℕ, ◌-◌, ◌≤◌, ◌≡◌, refl, ◌≢◌, List, [], ◌++◌, length, take}
use Rattle.std.proofs.Common.{◌∙◌, ap, le_refl, div-le_self, arith, le-leb, eq-eqb, ne_eqb}
use Rattle.std.proofs.Math.Decide.{ℕ_discrete}
use contract.Lifetimes.{Lfts}
use Rattle.layout.specs.Limits.{max_words, max_keep, max_roots, within, suits, map_words, stack_words, list_room, list_words}
use Rattle.freelist.specs.Records.{records}
use Rattle.freelist.specs.Figures.{figures_of}
use Rattle.collector.specs.Collect.{Left}
use Rattle.image.specs.Image.{Image, right, wrong, text_of}
use Rattle.image.specs.Limited.{Limited}
use Rattle.image.specs.TextLaws.{text_right}
use Rattle.report.specs.Printed.{free_lines}
use Rattle.report.specs.Answer.{code_lines, count_lines, lines_after, image_lines_in, clear_map, clear_stack, clear_list, image_lines, answer, answer_room, Output}
use Rattle.report.specs.AnswerLaws.{reports_front}
use Rattle.demands.specs.Reach.{Sound}
use Rattle.demands.specs.Lent.{Lent}
use Rattle.demands.proofs.Demand2Holds.{demand_2}
use Rattle.demands.specs.World.{World, collects_on, new_world, effect}
use Rattle.demands.proofs.StandsLaws.{rerooted, stands_surveyed}
use Rattle.demands.proofs.Demand3SetUpHolds.{set_up_left, set_up_stands}
use Rattle.demands.proofs.Demand3CollectHolds.{sound_succeeds, sound_finds, sound_stands}
use Rattle.demands.specs.Sameness.{Loan, MutLoan, answer_contract}
use Rattle.demands.proofs.SamenessHolds.{carries, answer_settled}
use Rattle.demands.specs.Program.{Prints, sound, unsound}

-- Set-up, collection and survey in buffers that are long enough.
module _ (heap : List ℕ) (t : ℕ) (roots map stack list : List ℕ) (few : length roots ≤ max_roots) (lends : Lent (record { words = length heap; keep = t; count = 0 }) heap [] map stack list) where
  -- The world after set-up.
  abbrev w : World
  w = new_world heap t map stack list

  -- It has the keep length.
  keep_is : w.state.keep ≡ t
  keep_is = ap (λ (x : World). x.state.keep) (set_up_left lends)

  -- With the roots it is within the limits.
  lent : Lent w.state w.heap roots w.map w.stack w.list
  lent = rerooted (set_up_stands lends).lent roots few

  -- What the collection leaves.
  abbrev c : Left
  c = collects_on w roots

  -- What is printed.
  abbrev printed : List ℕ
  printed = image_lines_in heap t roots map stack list

  -- Of a sound image the lines are those of a success.
  prints_sound : Sound w.heap w.state.keep roots → let free = records c.answer.state.count c.list in printed ≡ count_lines c.answer (figures_of free) ++ free_lines free
  unfolding image_lines_in lines_after new_world effect
  prints_sound all = rw (eq-eqb c.answer.code 0 (sound_succeeds lent all), stands_surveyed (sound_stands lent all))

  -- Of any other they name the fault.
  prints_unsound : c.answer.code ≢ 0 → printed ≡ code_lines c.answer.code c.answer.place
  unfolding image_lines_in lines_after new_world
  prints_unsound some = rw (ne_eqb c.answer.code 0 some)

  -- So they go by what is reached.
  prints_in : Prints heap t roots printed
  unfolding new_world
  prints_in =
      let meets = demand_2 w.state w.heap roots w.map w.stack w.list lent in
      let prints : Prints w.heap w.state.keep roots printed =
      elim (ℕ_discrete c.answer.code 0) [
        | yes none ↦ let all = meets.succeeds.0 none in sound all (record { collection = c.answer; map = c.map; list = c.list; finds = sound_finds lent all; lines = prints_sound all })
        | no some ↦ unsound (λ all. some (meets.succeeds.1 all)) (record { code = c.answer.code; place = c.answer.place; fault = meets.refuses some; first = meets.first some; lines = prints_unsound some })
      ] in
      rw keep_is at prints

-- Buffers as long as the program's are enough for an image.
enough : (image : Image) → Limited image × (2 ≤ image.lines) → (map stack list : List ℕ) → length clear_map ≤ length map → length clear_stack ≤ length stack → length clear_list ≤ length list
    → Lent (record { words = length image.heap; keep = image.keep; count = 0 }) image.heap [] map stack list
unfolding suits within map_words stack_words list_words list_room
enough image k map stack list m s l =
    let h : ℕ = length image.heap in
    let x = k.0 in
    let some : 1 ≤ h = x.heap_least (omega (arith, k.1)) in
    let most = div-le_self (h - 1) image.keep in
    record {
      bounded = record { suit = rw (le-leb 1 h some, le-leb h max_words (omega (arith, x.heap_most)), le-leb 1 image.keep (x.keep_least k.1), le-leb image.keep max_keep (x.keep_most k.1), eq-eqb h h refl); few = omega arith };
      map_room = omega (arith, x.heap_most);
      stack_room = omega (arith, x.heap_most, most);
      list_room_lem = omega (arith, x.heap_most, most);
    }

-- What the program prints for a right text goes by what the roots of its image reach.
pub program_prints : (text : List ℕ) (image : Image) → text_of text ≡ right image → Prints image.heap image.keep image.roots (answer text)
unfolding answer image_lines
program_prints text image e =
    let k = text_right text image e in
    rw e (prints_in image.heap image.keep image.roots clear_map clear_stack clear_list (omega (arith, k.0.roots_most)) (enough image k _ _ _ (le_refl _) (le_refl _) (le_refl _)))

-- What it prints for a wrong text is 12 and the number of the line.
pub program_wrong : (text : List ℕ) (line : ℕ) → text_of text ≡ wrong line → answer text ≡ code_lines 12 line
unfolding answer
program_wrong text line e = rw e

-- So it is of every outcome that the contract of `answer` allows, in a buffer that is long enough.
module _ (κs : Lfts 2) (text : Loan) (out : MutLoan) (enough : answer_room ≤ length out.now) where
  -- Of a right text.
  pub answer_prints : (image : Image) → text_of text.now ≡ right image → (x : Output) → (answer_contract κs text out).allows x → Prints image.heap image.keep image.roots (take x.count x.out)
  answer_prints image e =
      carries (answer_settled κs text out) (λ (x : Output). Prints image.heap image.keep image.roots (take x.count x.out))
      (rw (reports_front text.now out.now enough) (program_prints text.now image e))

  -- Of a wrong one.
  pub answer_twelve : (line : ℕ) → text_of text.now ≡ wrong line → (x : Output) → (answer_contract κs text out).allows x → take x.count x.out ≡ code_lines 12 line
  answer_twelve line e =
      carries (answer_settled κs text out) (λ (x : Output). take x.count x.out ≡ code_lines 12 line)
      (reports_front text.now out.now enough ∙ program_wrong text.now line e)
