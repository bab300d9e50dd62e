use native.Mathlib.Omega.{arith}
use Rattle.condition_checks.proofs.DepthSteps.{depth-zero, depth-step, depths-begin, depths-next, depths-all}
use Prim.Native.Nat.{◌-◌}
use Rattle.condition_checks.proofs.depth.+condition_depth_conditions_depth.Goals as goal

pub condition_depth-returns-then-left-eq0 : goal.condition_depth-returns-then-left-eq0
condition_depth-returns-then-left-eq0 t c = depth-zero c.if-left-eq0.true

pub condition_depth-children_from-start-requires : goal.condition_depth-children_from-start-requires
condition_depth-children_from-start-requires t c = c.requires

pub condition_depth-overflow_sub-left : goal.condition_depth-overflow_sub-left
condition_depth-overflow_sub-left t c = omega (arith, c.if-left-eq0.false)

pub condition_depth-conditions_depth-requires : goal.condition_depth-conditions_depth-requires
condition_depth-conditions_depth-requires t c = (omega (arith, c.if-left-eq0.false), c.requires.1)

pub condition_depth-overflow_add-result : goal.condition_depth-overflow_add-result
condition_depth-overflow_add-result t c = omega (arith, c.conditions_depth.ensures.most)

pub condition_depth-returns : goal.condition_depth-returns
condition_depth-returns t c = depth-step c.if-left-eq0.false c.start_of.ensures c.operator_at-op.ensures c.children_from-start.ensures c.conditions_depth.ensures

pub conditions_depth-loop-i-init : goal.conditions_depth-loop-i-init
conditions_depth-loop-i-init t c = (omega arith, depths-begin)

pub conditions_depth-condition_depth-depth-requires : goal.conditions_depth-condition_depth-depth-requires
conditions_depth-condition_depth-depth-requires t c = (omega arith, (c.behind-next.ensures.past c.loop-i-test.true, omega (arith, c.behind-next.ensures.most, c.requires)))

pub conditions_depth-loop-i-smaller : goal.conditions_depth-loop-i-smaller
conditions_depth-loop-i-smaller t c = omega (arith, c.behind-next.ensures.past c.loop-i-test.true)

pub conditions_depth-loop-i-preserved : goal.conditions_depth-loop-i-preserved
conditions_depth-loop-i-preserved t c =
    rw c.greater-most.ensures (
      omega (arith, c.loop-i.invariant.0, c.condition_depth-depth.ensures.most),
      depths-next c.loop-i.invariant.1 c.loop-i-test.true c.behind-next.ensures c.condition_depth-depth.ensures,
    )

pub conditions_depth-returns : goal.conditions_depth-returns
conditions_depth-returns t c = depths-all c.loop-i.invariant.1 c.loop-i-test.false c.loop-i.invariant.0
