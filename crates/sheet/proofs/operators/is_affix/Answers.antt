-- `sheet::operators::is_affix` meets its contract.
use Rattle.sheet.proofs.OperatorLaws.{affix-early, affix-late}
use Rattle.sheet.proofs.operators.is_affix.Goals as goal

pub returns-then-op-lt-STARTS_WITH : goal.returns-then-op-lt-STARTS_WITH
returns-then-op-lt-STARTS_WITH c = affix-early c.if-op-lt-STARTS_WITH.true

pub returns : goal.returns
returns c = affix-late c.if-op-lt-STARTS_WITH.false
