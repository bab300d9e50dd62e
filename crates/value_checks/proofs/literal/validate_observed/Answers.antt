-- `value_checks::literal::validate_observed` meets its contract: all the words, or none.
use Rattle.value_checks.proofs.ObservedSteps.{observed-yes, observed-no}
use Rattle.value_checks.proofs.literal.validate_observed.Goals as goal

pub returns-then-is_observed : goal.returns-then-is_observed
returns-then-is_observed c = observed-yes c.is_observed.ensures c.if-is_observed.true c.validate_literals.ensures

pub returns : goal.returns
returns c = rw c.going.ensures (observed-no c.is_observed.ensures c.if-is_observed.false)
