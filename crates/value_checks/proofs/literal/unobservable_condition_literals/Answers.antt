use native.Mathlib.Omega.{arith}
use Prim.Native.Nat.{◌-◌}
use Rattle.value_checks.specs.Literals.{ObservedJudged}
use Rattle.value_checks.proofs.Going.{goes-passed}
use Rattle.value_checks.proofs.ObservedSteps.{left-begin, left-next, left-all, left-stopped}
use Rattle.value_checks.proofs.literal.unobservable_condition_literals.Goals as goal

pub loop-i-init : goal.loop-i-init
loop-i-init c = (omega arith, omega arith, left-begin)

pub children_from-next-requires : goal.children_from-next-requires
children_from-next-requires c = (c.behind.ensures.past c.loop-i-test.true, omega (arith, c.behind.ensures.most))

pub overflow_add-i : goal.overflow_add-i
overflow_add-i c = omega arith

pub validate_observed-r-requires : goal.validate_observed-r-requires
validate_observed-r-requires c = (
  record { fits = omega (arith, c.loop-i.invariant.2.at_most, c.requires.0.fits, c.children_from-next.ensures.most, c.behind.ensures.most) },
  omega (arith, c.children_from-next.ensures.most, c.behind.ensures.most),
)

pub returns-in_default : goal.returns-in_default
returns-in_default c = left-stopped (left-next c.loop-i-test.true c.start_of.ensures c.operator_at-op.ensures c.behind.ensures c.children_from-next.ensures c.validate_observed-r.ensures c.loop-i.invariant.0 c.loop-i.invariant.2) c.in_default.is (omega (arith, c.children_from-next.ensures.most, c.behind.ensures.most))

pub loop-i-smaller : goal.loop-i-smaller
loop-i-smaller c = omega (arith, c.children_from-next.ensures.past)

pub loop-i-preserved : goal.loop-i-preserved
loop-i-preserved c = (
  omega (arith, c.children_from-next.ensures.past),
  omega (arith, c.children_from-next.ensures.most, c.behind.ensures.most),
  left-next c.loop-i-test.true c.start_of.ensures c.operator_at-op.ensures c.behind.ensures c.children_from-next.ensures (goes-passed (ObservedJudged _ _ _ _ _ _) c.in-Ok.is c.validate_observed-r.ensures) c.loop-i.invariant.0 c.loop-i.invariant.2,
)

pub returns : goal.returns
returns c = rw c.going.ensures (left-all c.loop-i.invariant.2 c.loop-i-test.false c.loop-i.invariant.1)
