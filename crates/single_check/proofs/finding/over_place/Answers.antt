use borrow.Author.Rules.{rules}
use Rattle.single_check.proofs.FindingSteps.{place-body, place_none}
use Rattle.validation.specs.Result.{over_place_in}
use Rattle.value_checks.specs.Verdicts.{over_by}
use Rattle.single_check.proofs.finding.over_place.Goals as goal

pub returns-in_default : goal.returns-in_default
unfolding over_place_in over_by
returns-in_default c = search rules

pub returns-then-family-eq1 : goal.returns-then-family-eq1
unfolding over_place_in over_by
returns-then-family-eq1 c = place-body c.in-Some.is c.if-family-eq1.true

pub returns-else-family-eq1 : goal.returns-else-family-eq1
unfolding over_place_in over_by
returns-else-family-eq1 c = place_none c.in-Some.is c.if-family-eq1.false
