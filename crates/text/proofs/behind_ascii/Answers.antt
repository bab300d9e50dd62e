use Prim.Native.Nat.{◌-◌}
use native.Mathlib.Omega.{arith}
use borrow.Author.Rules.{rules}
use Rattle.text.proofs.Passes.{passed_none, passed-ascii}
use Rattle.text.proofs.behind_ascii.Goals as goal

pub loop-at-init : goal.loop-at-init
loop-at-init c = search (passed_none, rules)

pub loop-at-preserved : goal.loop-at-preserved
loop-at-preserved c =
    passed-ascii c.args.s.now c.args.from c.loop-at.at 8 c.loop-at.invariant (omega (arith, c.loop-at.invariant.within)) (c.is_ascii_8.ensures c.if-is_ascii_8.true)
