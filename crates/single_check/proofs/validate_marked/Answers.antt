-- `single_check::validate_marked` meets its contract: no marks, or those of the rule that was accepted.
use native.Mathlib.Omega.{arith}
use Rattle.validation.proofs.MarkingLaws.{count-few}
use Rattle.single_check.proofs.WholeSteps.{unmarked, marked}
use Rattle.single_check.proofs.validate_marked.Goals as goal

pub returns-then-outcome-ne0 : goal.returns-then-outcome-ne0
returns-then-outcome-ne0 c =
    unmarked _ _ _ _ _ _ _ _ _ _ c.validate_lent-outcome.ensures c.if-outcome-ne0.true

pub overflow_cast-result : goal.overflow_cast-result
overflow_cast-result c =
    omega (arith, count-few _ (marked _ _ _ _ _ _ _ _ _ _ c.validate_lent-outcome.ensures c.if-outcome-ne0.false c.mark_constants-count.ensures))

pub returns : goal.returns
returns c =
    marked _ _ _ _ _ _ _ _ _ _ c.validate_lent-outcome.ensures c.if-outcome-ne0.false c.mark_constants-count.ensures
