-- `sheet::operators::is_instant_test` meets its contract.
use Rattle.sheet.proofs.OperatorLaws.{instant-early, instant-late}
use Rattle.sheet.proofs.operators.is_instant_test.Goals as goal

pub returns-then-op-lt-BEFORE : goal.returns-then-op-lt-BEFORE
returns-then-op-lt-BEFORE c = instant-early c.if-op-lt-BEFORE.true

pub returns : goal.returns
returns c = instant-late c.if-op-lt-BEFORE.false
