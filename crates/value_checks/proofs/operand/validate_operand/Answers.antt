-- `value_checks::operand::validate_operand` meets its contract: what is asked before the references, these, and what is asked after them.
use native.Mathlib.Omega.{arith}
use Rattle.value_checks.specs.Frames.{ValueJudged, ReferencesIn}
use Rattle.value_checks.proofs.Going.{goes-passed}
use Rattle.value_checks.proofs.OperandSteps.{operand-judged, operand-refused, operand-stopped}
use Rattle.value_checks.proofs.operand.validate_operand.Goals as goal

pub validate_side-a-requires : goal.validate_side-a-requires
validate_side-a-requires c = (record { fits = omega (arith, c.requires.0.fits, c.requires.1) }, omega (arith, c.requires.1, c.requires.2))

pub returns-in_default : goal.returns-in_default
returns-in_default c = operand-refused c.requires.1 c.validate_side-a.ensures c.in_default.is

pub validate_references-r-requires : goal.validate_references-r-requires
validate_references-r-requires c = (record { fits = omega (arith, c.requires.0.fits, c.requires.1, c.validate_side-a.ensures.at_most) }, c.requires.2)

pub returns-in_default-verdict : goal.returns-in_default-verdict
returns-in_default-verdict c = operand-stopped c.requires.1 (goes-passed (ValueJudged _ _ _ _ _ _) c.in-Ok.is c.validate_side-a.ensures) c.validate_references-r.ensures c.in_default-verdict.is

pub validate_form-requires : goal.validate_form-requires
validate_form-requires c = (record { fits = omega (arith, c.requires.0.fits, c.requires.1, c.validate_side-a.ensures.at_most, c.validate_references-r.ensures.at_most) }, omega (arith, c.requires.1, c.requires.2))

pub returns : goal.returns
returns c = operand-judged c.requires.1 (goes-passed (ValueJudged _ _ _ _ _ _) c.in-Ok.is c.validate_side-a.ensures) (goes-passed (ReferencesIn _ _ _ _) c.in-Ok-verdict.is c.validate_references-r.ensures) c.validate_form.ensures
