use Prim.Native.Nat.{◌-◌}
use native.Mathlib.Omega.{arith}
use Rattle.text.proofs.Comparing.{number-less, number-greater, number_same}
use Rattle.text.proofs.order.compare.Goals as goal

pub returns-then-first-second : goal.returns-then-first-second
returns-then-first-second c =
    number-less c.args.a.now c.args.b.now 4 c.loop-i.i c.four_big_endian-first.result c.four_big_endian-second.result c.loop-i.invariant.1 (omega (arith, c.shorter-n.ensures)) (omega (arith, c.shorter-n.ensures)) c.four_big_endian-first.ensures c.four_big_endian-second.ensures c.if-first-second.true

pub returns-then-second-first : goal.returns-then-second-first
returns-then-second-first c =
    number-greater c.args.a.now c.args.b.now 4 c.loop-i.i c.four_big_endian-first.result c.four_big_endian-second.result c.loop-i.invariant.1 (omega (arith, c.shorter-n.ensures)) (omega (arith, c.shorter-n.ensures)) c.four_big_endian-first.ensures c.four_big_endian-second.ensures c.if-second-first.true

pub loop-i-preserved : goal.loop-i-preserved
loop-i-preserved c = (
  omega arith,
  number_same c.args.a.now c.args.b.now 4 c.loop-i.i c.four_big_endian-first.result c.four_big_endian-second.result c.loop-i.invariant.1 (omega (arith, c.shorter-n.ensures)) (omega (arith, c.shorter-n.ensures)) c.four_big_endian-first.ensures c.four_big_endian-second.ensures (omega arith),
)
