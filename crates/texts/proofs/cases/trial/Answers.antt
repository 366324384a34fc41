-- `cases::trial` is safe: an answer is no longer than the buffer.
use Rattle.report.specs.AnswerLaws.{reports_inside}
use Rattle.texts.proofs.cases.trial.Goals as goal

pub split_at-requires : goal.split_at-requires
split_at-requires g c = reports_inside _ _ c.answer-m.ensures
