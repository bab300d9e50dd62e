use native.Mathlib.Omega.{arith}
use Prim.Native.Nat.{◌-◌}
use Rattle.constants.proofs.PlainSteps.{unmarked-begin, unmarked-next}
use Rattle.constants.proofs.behind_plain.Goals as goal

pub loop-i-init : goal.loop-i-init
loop-i-init c = unmarked-begin

pub loop-i-smaller : goal.loop-i-smaller
loop-i-smaller c = omega (arith, c.behind-i.ensures.past c.loop-i-test.true)

pub loop-i-preserved : goal.loop-i-preserved
loop-i-preserved c = unmarked-next c.loop-i-test.true c.start_of.ensures c.operator_at.ensures (rw c.if-is_plain.true at c.is_plain.ensures) c.behind-i.ensures c.loop-i.invariant

pub returns-else-is_plain : goal.returns-else-is_plain
returns-else-is_plain c = c.loop-i.invariant

pub returns : goal.returns
returns c = c.loop-i.invariant
