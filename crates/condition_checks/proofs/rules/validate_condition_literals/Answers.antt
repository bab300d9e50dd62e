-- `condition_checks::rules::validate_condition_literals` meets its contract: the literal pass, or nothing.
use Rattle.condition_checks.proofs.RuleSteps.{pass-service, pass-kernel}
use Rattle.condition_checks.proofs.rules.validate_condition_literals.Goals as goal

pub unobservable_condition_literals-requires : goal.unobservable_condition_literals-requires
unobservable_condition_literals-requires c = c.requires

pub returns-then-service : goal.returns-then-service
returns-then-service c = pass-service c.if-service.true c.unobservable_condition_literals.ensures

pub returns : goal.returns
returns c = rw c.going.ensures (pass-kernel c.if-service.false)
