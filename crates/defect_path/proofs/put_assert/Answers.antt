use Rattle.text.specs.Ascii.{ascii}
use Rattle.defect_path.proofs.RuleSteps.{assert-label, assert-inside}
use Rattle.defect_path.proofs.put_assert.Goals as goal

pub returns-then-number-le-MESSAGE : goal.returns-then-number-le-MESSAGE
returns-then-number-le-MESSAGE c = assert-label c.if-number-le-MESSAGE.true

pub returns : goal.returns
unfolding ascii
returns c = assert-inside c.if-number-le-MESSAGE.false c.put-next.ensures c.put_condition.ensures
