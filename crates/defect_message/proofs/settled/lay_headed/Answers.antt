use Rattle.defect_message.proofs.SettledSteps.{headed-operator, headed-empty, headed-bind}
use Rattle.defect_message.proofs.settled.lay_headed.Goals as goal

pub returns-then-number-eq15 : goal.returns-then-number-eq15
returns-then-number-eq15 c = headed-operator _ _ _ c.start_of.ensures c.operator_at-op.ensures c.if-number-eq15.true c.lay_operator.ensures

pub returns-then-number-eq16 : goal.returns-then-number-eq16
returns-then-number-eq16 c = headed-empty _ _ _ c.start_of.ensures c.operator_at-op.ensures c.if-number-eq16.true c.lay_empty.ensures

pub returns : goal.returns
returns c = headed-bind _ c.if-number-eq15.false c.if-number-eq16.false c.lay_bind.ensures
