use Prim.Native.Nat.{◌-◌}
use native.Mathlib.Omega.{arith}
use borrow.Author.Rules.{rules}
use Rattle.json_text.proofs.Scanning.{plain-none, plain-piece}
use Rattle.json_text.proofs.string.after_plain_32.Goals as goal

pub loop-i-init : goal.loop-i-init
loop-i-init c = search (plain-none, rules)

pub loop-i-preserved : goal.loop-i-preserved
loop-i-preserved c =
    let a = c.args in
    plain-piece a.s.now a.at c.loop-i.i 32 c.loop-i.invariant (omega (arith, c.loop-i.invariant.within)) (c.is_plain_32.ensures c.if-is_plain_32.true)
