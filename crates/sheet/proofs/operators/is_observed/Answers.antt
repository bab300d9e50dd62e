-- `sheet::operators::is_observed` meets its contract.
use Rattle.sheet.proofs.OperatorLaws.{observed-early, observed-middle, observed-late}
use Rattle.sheet.proofs.operators.is_observed.Goals as goal

pub returns-then-op-ge-COMPARE : goal.returns-then-op-ge-COMPARE
returns-then-op-ge-COMPARE c = observed-late c.if-op-ge-COMPARE.true

pub returns-then-op-lt-EQ : goal.returns-then-op-lt-EQ
returns-then-op-lt-EQ c = observed-early c.if-op-ge-COMPARE.false c.if-op-lt-EQ.true

pub returns : goal.returns
returns c = observed-middle c.if-op-ge-COMPARE.false c.if-op-lt-EQ.false
