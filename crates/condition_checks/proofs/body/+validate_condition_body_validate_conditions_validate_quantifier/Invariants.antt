-- `condition_checks::body::validate_condition_body`, `validate_conditions` and `validate_quantifier` meet their contracts: what is left of the depth falls.
use Rattle.value_checks.specs.Verdicts.{going}
use Rattle.value_checks.specs.Frames.{frame}
use Rattle.condition_checks.proofs.BodySteps.{BodiesLeft}
use Prim.Native.Nat.{◌+◌, ◌-◌, ◌*◌, ◌≤◌}
use Rattle.condition_checks.proofs.body.+validate_condition_body_validate_conditions_validate_quantifier.Given as goal

abbrev pub decreases-validate_condition_body : goal.decreases-validate_condition_body
decreases-validate_condition_body l = 3 * l.left

abbrev pub decreases-validate_conditions : goal.decreases-validate_conditions
decreases-validate_conditions l = 3 * l.left + 1

abbrev pub decreases-validate_quantifier : goal.decreases-validate_quantifier
decreases-validate_quantifier l = 3 * l.left + 2

abbrev pub invariant-validate_conditions-loop-i : goal.invariant-validate_conditions-loop-i
invariant-validate_conditions-loop-i l = (l.start ≤ l.i) × (l.i - l.start ≤ l.end - l.start) × BodiesLeft (frame l.schema l.rule l.words l.scope l.over) l.start l.i l.end l.left (going l.initial.so_far) (going l.so_far)

abbrev pub decreases-validate_conditions-loop-i : goal.decreases-validate_conditions-loop-i
decreases-validate_conditions-loop-i l = l.end - l.i
