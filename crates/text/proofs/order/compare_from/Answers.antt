use native.Mathlib.Omega.{arith}
use lib.ListN.{length, get_or}
use Rattle.std.specs.Cmp.{ranks}
use Rattle.text.proofs.Comparing.{goes_on, goes-start, unequal, by-lengths}
use Rattle.text.proofs.order.compare_from.Goals as goal

pub loop-i-init : goal.loop-i-init
loop-i-init c = goes-start c.args.a.now c.args.b.now c.args.from c.requires

pub bounds-a-i : goal.bounds-a-i
bounds-a-i c = omega (arith, c.shorter-n.ensures)

pub bounds-b-i : goal.bounds-b-i
bounds-b-i c = omega (arith, c.shorter-n.ensures)

pub returns-then-a-i : goal.returns-then-a-i
returns-then-a-i c =
    rw c.cmp.ensures (unequal c.args.a.now c.args.b.now c.loop-i.i c.loop-i.invariant (omega (arith, c.shorter-n.ensures)) (omega (arith, c.shorter-n.ensures)) c.if-a-i.true _ (ranks (get_or c.args.a.now c.loop-i.i 0) (get_or c.args.b.now c.loop-i.i 0)))

pub loop-i-preserved : goal.loop-i-preserved
loop-i-preserved c =
    goes_on c.args.a.now c.args.b.now c.loop-i.i c.loop-i.invariant (omega (arith, c.shorter-n.ensures)) (omega (arith, c.shorter-n.ensures)) c.if-a-i.false

pub returns : goal.returns
returns c = rw c.cmp-2.ensures (by-lengths c.args.a.now c.args.b.now c.loop-i.i c.loop-i.invariant (omega (arith, c.shorter-n.ensures, c.requires.in-first, c.requires.in-second)) _ (ranks (length c.args.a.now) (length c.args.b.now)))
