use Prim.Native.Nat.{◌-◌}
use native.Mathlib.Omega.{arith}
use Rattle.walk.proofs.Dots.{dotless-none, dotless-more}
use Rattle.walk.proofs.path.dotless_start_32.Goals as goal

pub loop-i-init : goal.loop-i-init
loop-i-init c = dotless-none _

pub loop-i-preserved : goal.loop-i-preserved
loop-i-preserved c =
    dotless-more c.args.path.now c.loop-i.i 32 c.loop-i.invariant (omega (arith, c.loop-i.invariant.within)) (c.is_dotless_32.ensures c.if-is_dotless_32.true)
