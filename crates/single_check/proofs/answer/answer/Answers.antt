use Rattle.single_check.proofs.AnswerSteps.{answer-accepted, answer-defect}
use Rattle.single_check.proofs.answer.answer.Goals as goal

pub returns-in_default : goal.returns-in_default
returns-in_default c = answer-accepted _ c.unbound-scope.ensures c.judge-a.ensures c.narrow-passed.ensures c.in_default.is c.accepted.ensures

pub returns : goal.returns
returns c = answer-defect _ c.unbound-scope.ensures c.judge-a.ensures c.narrow-passed.ensures c.in-Err.is c.find-f.ensures c.narrow-place.ensures c.write_path-length.ensures c.family_in.ensures c.over_place.ensures c.narrow.ensures c.narrow-2.ensures
