use Prim.Native.Nat.{◌-◌}
use native.Mathlib.Omega.{arith}
use Rattle.walk.proofs.Dots.{dotless-more}
use Rattle.walk.proofs.path.dotless_start.Goals as goal

pub loop-i-preserved : goal.loop-i-preserved
loop-i-preserved c =
    dotless-more c.args.path.now c.loop-i.i 8 c.loop-i.invariant (omega (arith, c.loop-i.invariant.within)) (c.is_dotless_8.ensures c.if-is_dotless_8.true)
