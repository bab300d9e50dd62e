use Prim.Native.Nat.{◌-◌}
use native.Mathlib.Omega.{arith}
use Rattle.json_text.proofs.Scanning.{plain-piece}
use Rattle.json_text.proofs.string.after_plain_8.Goals as goal

pub loop-i-preserved : goal.loop-i-preserved
loop-i-preserved c =
    let a = c.args in
    plain-piece a.s.now a.at c.loop-i.i 8 c.loop-i.invariant (omega (arith, c.loop-i.invariant.within)) (c.is_plain_8.ensures c.if-is_plain_8.true)
