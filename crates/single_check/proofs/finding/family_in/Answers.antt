use borrow.Author.Rules.{rules}
use Rattle.single_check.proofs.FindingSteps.{family-body, family-own}
use Rattle.validation.specs.Result.{family_in}
use Rattle.value_checks.specs.Verdicts.{over_by}
use Rattle.single_check.proofs.finding.family_in.Goals as goal

pub returns-in_default : goal.returns-in_default
unfolding family_in over_by
returns-in_default c = search rules

pub returns-then-family-eq1 : goal.returns-then-family-eq1
unfolding family_in over_by
returns-then-family-eq1 c = family-body c.in-Some.is c.if-family-eq1.true

pub returns-else-family-eq1 : goal.returns-else-family-eq1
unfolding family_in over_by
returns-else-family-eq1 c = family-own c.in-Some.is c.if-family-eq1.false
