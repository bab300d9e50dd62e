-- `condition_checks::depth::condition_depth` and `conditions_depth` meet their contracts: what is left of the depth falls.
use Rattle.condition_checks.proofs.DepthSteps.{DepthsLeft}
use Prim.Native.Nat.{◌+◌, ◌-◌, ◌*◌, ◌≤◌}
use Rattle.condition_checks.proofs.depth.+condition_depth_conditions_depth.Given as goal

abbrev pub decreases-condition_depth : goal.decreases-condition_depth
decreases-condition_depth l = 2 * l.left

abbrev pub decreases-conditions_depth : goal.decreases-conditions_depth
decreases-conditions_depth l = 2 * l.left + 1

abbrev pub invariant-conditions_depth-loop-i : goal.invariant-conditions_depth-loop-i
invariant-conditions_depth-loop-i l = (l.most ≤ l.left) × DepthsLeft l.rule l.words l.start l.i l.end l.left l.most

abbrev pub decreases-conditions_depth-loop-i : goal.decreases-conditions_depth-loop-i
decreases-conditions_depth-loop-i l = l.end - l.i
