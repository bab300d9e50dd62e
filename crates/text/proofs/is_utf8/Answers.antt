use native.Mathlib.Omega.{arith}
use Prim.Native.Nat.{◌-◌}
use Rattle.text.proofs.Passes.{passed-both, passed-byte, utf8-refused, utf8-passed}
use Rattle.text.proofs.is_utf8.Goals as goal

pub behind_ascii-at-requires : goal.behind_ascii-at-requires
behind_ascii-at-requires c = c.behind_ascii_32.ensures.within

pub loop-at-init : goal.loop-at-init
loop-at-init c = passed-both c.behind_ascii_32.ensures c.behind_ascii-at.ensures

pub loop-at-preserved-then-s-at-le127 : goal.loop-at-preserved-then-s-at-le127
loop-at-preserved-then-s-at-le127 c = passed-byte c.args.s.now 0 c.loop-at.at c.loop-at.invariant c.loop-at-test.true c.if-s-at-le127.true

pub returns-then-next-at : goal.returns-then-next-at
returns-then-next-at c = utf8-refused c.args.s.now c.loop-at.at c.loop-at.invariant c.behind_point-next.ensures c.if-next-at.true

pub behind_ascii-at-requires-in-loop-at : goal.behind_ascii-at-requires-in-loop-at
behind_ascii-at-requires-in-loop-at c = c.behind_point-next.ensures.passed.within

pub loop-at-smaller : goal.loop-at-smaller
loop-at-smaller c = omega (arith, c.behind_point-next.ensures.passed.forward, c.if-next-at.false, c.behind_ascii-at-in-loop-at.ensures.forward)

pub loop-at-preserved : goal.loop-at-preserved
loop-at-preserved c = passed-both c.loop-at.invariant (passed-both c.behind_point-next.ensures.passed c.behind_ascii-at-in-loop-at.ensures)

pub returns : goal.returns
returns c = utf8-passed c.args.s.now c.loop-at.at c.loop-at.invariant c.loop-at-test.false
