-- `value_checks::verdict::pass` meets its contract.
use Rattle.value_checks.proofs.Going.{passed_on}
use Rattle.value_checks.proofs.verdict.pass.Goals as goal

pub returns : goal.returns
returns c = rw c.going.ensures passed_on
