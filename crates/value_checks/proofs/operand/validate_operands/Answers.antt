use native.Mathlib.Omega.{arith}
use Prim.Native.Nat.{◌-◌}
use Rattle.value_checks.specs.Frames.{OperandJudged}
use Rattle.value_checks.proofs.Going.{goes-passed}
use Rattle.value_checks.proofs.OperandSteps.{operands_begin, operands_next, operands-stopped, operands-all}
use Rattle.value_checks.proofs.operand.validate_operands.Goals as goal

pub loop-i-init : goal.loop-i-init
loop-i-init c = (omega arith, omega arith, operands_begin)

pub validate_operand-r-requires : goal.validate_operand-r-requires
validate_operand-r-requires c = (record { fits = omega (arith, c.loop-i.invariant.0, c.loop-i.invariant.2.at_most, c.requires.0.fits, c.behind-next.ensures.most) }, c.behind-next.ensures.past c.loop-i-test.true, omega (arith, c.behind-next.ensures.most, c.requires.1))

pub returns-in_default : goal.returns-in_default
returns-in_default c = operands-stopped c.in_default.is (omega (arith, c.behind-next.ensures.most)) (operands_next c.loop-i-test.true c.behind-next.ensures c.validate_operand-r.ensures c.loop-i.invariant.0 c.loop-i.invariant.2)

pub loop-i-smaller : goal.loop-i-smaller
loop-i-smaller c = omega (arith, c.behind-next.ensures.past c.loop-i-test.true)

pub loop-i-preserved : goal.loop-i-preserved
loop-i-preserved c = (
  omega (arith, c.behind-next.ensures.past c.loop-i-test.true, c.loop-i.invariant.0),
  omega (arith, c.behind-next.ensures.most),
  operands_next c.loop-i-test.true c.behind-next.ensures (goes-passed (OperandJudged _ _ _ _ _ _) c.in-Ok.is c.validate_operand-r.ensures) c.loop-i.invariant.0 c.loop-i.invariant.2,
)

pub returns : goal.returns
returns c = rw c.going.ensures (operands-all c.loop-i-test.false c.loop-i.invariant.1 c.loop-i.invariant.2)
