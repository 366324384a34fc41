-- The contracts allow just the world after a history, and just the answers, that the calls' own functions give.
use Rattle.std.specs.Prelude.{ℕ, ◌≡◌, List}
use Rattle.std.proofs.Math.Path.{refl}
use Rattle.std.proofs.Common.{ap, ◌∙◌}
use base.Fml.{Lft, GName}
use Rattle.layout.specs.SetUp.{sets_up}
use Rattle.demands.specs.World.{World, made, begun, Call, allot, read, write, collect, survey, Effect, of_allot, of_read, of_write, of_collect, of_survey, new_world, allots_on, reads_on, writes_on, collects_on, surveys_on, effect, answers}
use Rattle.demands.specs.History.{History, set_up, ◌then◌, world}
use Rattle.demands.specs.Sameness.{Loan, MutLoan}
use Rattle.demands.specs.MayLeave.{MayHave, by_allot, by_read, by_write, by_collect, by_survey, MayLeave, at_set_up, at_call}
use Rattle.demands.proofs.SamenessHolds.{set_up_settled, collect_settled, allot_settled, read_settled, write_settled, survey_settled}

-- A call may have just its effect.
pub only_effect : {w : World} {c : Call} {e : Effect} → MayHave w c e → e ≡ effect w c
unfolding effect
only_effect (by_allot κs state heap map list stack s p x allowed) = ap (of_allot (made heap.now state map.now stack list.now)) (((allot_settled κs state heap map list s p).just x).0 allowed)
only_effect (by_read κs state heap map stack list a k x allowed) = ap (of_read (made heap.now state map.now stack list)) (((read_settled κs state heap map a k).just x).0 allowed)
only_effect (by_write κs state heap map stack list a k v x allowed) = ap (of_write (made heap.now state map.now stack list)) (((write_settled κs state heap map a k v).just x).0 allowed)
only_effect (by_collect κs state heap roots map stack list x allowed) = ap (of_collect (made heap.now state map.now stack.now list.now)) (((collect_settled κs state heap roots map stack list).just x).0 allowed)
only_effect (by_survey κs state list heap map stack x allowed) = ap (of_survey (made heap state map stack list.now)) (((survey_settled κs state list).just x).0 allowed)

-- So a history may leave just its world,
pub only_world : {past : History} {w : World} → MayLeave past w → w ≡ world past
unfolding world new_world
only_world (at_set_up κs heap t map list stack x allowed) = ap (begun heap.now stack) (((set_up_settled κs heap t map list).just x).0 allowed)
only_world (at_call {c = c} left has) = ap (λ (e : Effect). e.left) (only_effect has) ∙ ap (λ (w : World). (effect w c).left) (only_world left)

-- and each call after it just its answer.
pub only_answer : {past : History} {w : World} {c : Call} {e : Effect} → MayLeave past w → MayHave w c e → e.answer ≡ answers (world past) c
only_answer {c = c} left has = ap (λ (e : Effect). e.answer) (only_effect has) ∙ ap (λ (w : World). answers w c) (only_world left)

-- Whatever lifetime, place and name the loans have, the same for each, the contracts allow these.
module _ (κ : Lft) (place : ℕ × ℕ) (name : GName) where
  -- A loan of words to be read.
  lend : List ℕ → Loan
  lend words = record { ref_ptr = place; now = words }

  -- A loan of words to be changed.
  lend_mut : List ℕ → MutLoan
  lend_mut words = record { ref_ptr = place; ghost_name = name; now = words }

  -- A call may have its effect,
  pub may_effect : (w : World) (c : Call) → MayHave w c (effect w c)
  unfolding effect lend lend_mut
  may_effect w (allot s p) = by_allot (κ, (κ, (κ, tt))) w.state (lend_mut w.heap) (lend_mut w.map) (lend_mut w.list) w.stack s p (allots_on w s p) (((allot_settled (κ, (κ, (κ, tt))) w.state (lend_mut w.heap) (lend_mut w.map) (lend_mut w.list) s p).just _).1 refl)
  may_effect w (read a k) = by_read (κ, (κ, tt)) w.state (lend w.heap) (lend w.map) w.stack w.list a k (reads_on w a k) (((read_settled (κ, (κ, tt)) w.state (lend w.heap) (lend w.map) a k).just _).1 refl)
  may_effect w (write a k v) = by_write (κ, (κ, tt)) w.state (lend_mut w.heap) (lend w.map) w.stack w.list a k v (writes_on w a k v) (((write_settled (κ, (κ, tt)) w.state (lend_mut w.heap) (lend w.map) a k v).just _).1 refl)
  may_effect w (collect roots) = by_collect (κ, (κ, (κ, (κ, (κ, tt))))) w.state (lend w.heap) (lend roots) (lend_mut w.map) (lend_mut w.stack) (lend_mut w.list) (collects_on w roots) (((collect_settled (κ, (κ, (κ, (κ, (κ, tt))))) w.state (lend w.heap) (lend roots) (lend_mut w.map) (lend_mut w.stack) (lend_mut w.list)).just _).1 refl)
  may_effect w survey = by_survey (κ, tt) w.state (lend w.list) w.heap w.map w.stack (surveys_on w) (((survey_settled (κ, tt) w.state (lend w.list)).just _).1 refl)

  -- and a history may leave its world.
  pub may_world : (past : History) → MayLeave past (world past)
  unfolding world new_world lend lend_mut
  may_world (set_up heap t map stack list) = at_set_up (κ, (κ, (κ, tt))) (lend heap) t (lend_mut map) (lend_mut list) stack (sets_up heap t map list) (((set_up_settled (κ, (κ, (κ, tt))) (lend heap) t (lend_mut map) (lend_mut list)).just _).1 refl)
  may_world (past then c) = at_call (may_world past) (may_effect (world past) c)
