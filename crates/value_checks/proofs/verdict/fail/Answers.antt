-- `value_checks::verdict::fail` meets its contract.
use Rattle.value_checks.proofs.Going.{failed-now}
use Rattle.value_checks.proofs.verdict.fail.Goals as goal

pub returns : goal.returns
returns c = failed-now
