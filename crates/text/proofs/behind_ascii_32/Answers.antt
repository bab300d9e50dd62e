use Prim.Native.Nat.{◌-◌}
use native.Mathlib.Omega.{arith}
use Rattle.text.proofs.Passes.{passed_none, passed-ascii}
use Rattle.text.proofs.behind_ascii_32.Goals as goal

pub loop-at-init : goal.loop-at-init
loop-at-init c = passed_none c.args.s.now 0 (omega arith)

pub loop-at-preserved : goal.loop-at-preserved
loop-at-preserved c =
    passed-ascii c.args.s.now 0 c.loop-at.at 32 c.loop-at.invariant (omega (arith, c.loop-at.invariant.within)) (c.is_ascii_32.ensures c.if-is_ascii_32.true)
