-- `hx_survey`: the survey's own answer, with the figures in words.
use Rattle.std.proofs.Common.{ℕ, List, ap, ◌∙◌, lit<}
use Rattle.firmware.specs.Lent.{fronted}
use Rattle.firmware.specs.CallsLaws.{survey_short, survey_crosses}
use Rattle.firmware.specs.FitsLaws.{survey_fits}
use Rattle.firmware.specs.LentLaws.{both_long}
use Rattle.firmware.proofs.calls.hx_survey.Goals as goal

pub returns-then-not-state-answer : goal.returns-then-not-state-answer
returns-then-not-state-answer c = let t = c.args in rw c.number.ensures (survey_short t.state.now t.list.now t.answer.now c.if-not-state-answer.true)

pub state_in-was-requires : goal.state_in-was-requires
state_in-was-requires c = let t = c.args in (both_long t.state.now t.answer.now 3 c.if-not-state-answer.false).0

pub survey-code-requires : goal.survey-code-requires
survey-code-requires c = survey_fits c.state_in-was.result c.args.list.now c.survey-seen.ensures

pub put-requires : goal.put-requires
put-requires c = let t = c.args in (lit< tt, (both_long t.state.now t.answer.now 3 c.if-not-state-answer.false).1)

pub returns : goal.returns
returns c =
    let t = c.args in
    let got = c.survey-code.ensures in
    rw got.code (survey_crosses t.state.now t.list.now t.answer.now c.if-not-state-answer.false c.state_in-was.ensures.value c.survey-seen.ensures (c.put.ensures ∙ ap (λ (w : List ℕ). fronted w t.answer.now) got.words))
