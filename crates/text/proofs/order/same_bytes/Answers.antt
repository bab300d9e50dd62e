use native.Mathlib.Omega.{arith}
use borrow.Author.Rules.{rules}
use Rattle.text.proofs.Comparing.{goes_on, goes-start, same-apart, same-apart-at, same-to-the-end}
use Rattle.text.proofs.order.same_bytes.Goals as goal

pub returns-then-a-b : goal.returns-then-a-b
returns-then-a-b c = search (same-apart, rules)

pub loop-i-init : goal.loop-i-init
loop-i-init c = goes-start c.args.a.now c.args.b.now c.same_start-i.result c.same_start-i.ensures

pub returns-then-a-i : goal.returns-then-a-i
returns-then-a-i c = same-apart-at c.args.a.now c.args.b.now c.loop-i.i c.if-a-i.true

pub loop-i-preserved : goal.loop-i-preserved
loop-i-preserved c = goes_on c.args.a.now c.args.b.now c.loop-i.i c.loop-i.invariant (omega arith) (omega (arith, c.if-a-b.false)) c.if-a-i.false

pub returns : goal.returns
returns c = same-to-the-end c.args.a.now c.args.b.now c.loop-i.i c.loop-i.invariant c.if-a-b.false (omega (arith, c.loop-i-test.false))
