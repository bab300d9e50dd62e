-- `value_checks::verdict::require` meets its contract.
use Rattle.value_checks.proofs.Going.{required-wrong, required-right}
use Rattle.value_checks.proofs.verdict.require.Goals as goal

pub returns-then-wrong : goal.returns-then-wrong
returns-then-wrong c = required-wrong c.if-wrong.true c.fail.ensures

pub returns : goal.returns
returns c = required-right c.if-wrong.false c.pass.ensures
