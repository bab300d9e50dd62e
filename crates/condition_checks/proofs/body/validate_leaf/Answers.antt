-- `condition_checks::body::validate_leaf` meets its contract: the entry, then the operands.
use native.Mathlib.Omega.{arith}
use Rattle.condition_checks.specs.Bodies.{EntryJudged}
use Rattle.value_checks.proofs.Going.{goes-passed}
use Rattle.condition_checks.proofs.BodySteps.{leaf-judged, leaf-stopped}
use Rattle.condition_checks.proofs.body.validate_leaf.Goals as goal

pub validate_entry-r-requires : goal.validate_entry-r-requires
validate_entry-r-requires c = (record { fits = omega (arith, c.requires.0.fits, c.requires.1) }, omega (arith, c.requires.1, c.requires.2))

pub returns-in_default : goal.returns-in_default
returns-in_default c = leaf-stopped c.requires.1 c.validate_entry-r.ensures c.in_default.is

pub overflow_add-i : goal.overflow_add-i
overflow_add-i c = omega (arith, c.requires.1, c.requires.2)

pub validate_operands-requires : goal.validate_operands-requires
validate_operands-requires c = (record { fits = omega (arith, c.requires.0.fits, c.requires.1, c.validate_entry-r.ensures.operator.at_most, c.validate_entry-r.ensures.nonempty.at_most) }, omega (arith, c.requires.2))

pub returns : goal.returns
returns c = leaf-judged c.requires.1 (goes-passed (EntryJudged _ _ _ _ _ _) c.in-Ok.is c.validate_entry-r.ensures) c.validate_operands.ensures
