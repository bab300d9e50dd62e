use Prim.Native.Nat.{◌-◌}
use native.Mathlib.Omega.{arith}
use Rattle.text.proofs.Comparing.{same_none, same_more}
use Rattle.text.proofs.order.same_start.Goals as goal

pub loop-i-init : goal.loop-i-init
loop-i-init c = (omega arith, same_none _ _)

pub loop-i-preserved : goal.loop-i-preserved
loop-i-preserved c = (
  omega arith,
  same_more c.args.a.now c.args.b.now c.loop-i.i 8 c.loop-i.invariant.1 (omega (arith, c.shorter-n.ensures)) (omega (arith, c.shorter-n.ensures)) (c.is_same_8.ensures c.if-is_same_8.true),
)
