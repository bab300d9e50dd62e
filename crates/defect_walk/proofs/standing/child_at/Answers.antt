use native.Mathlib.Omega.{arith}
use borrow.Author.Rules.{rules}
use Prim.Native.Nat.{◌-◌}
use Rattle.defect_walk.proofs.ChildSteps.{searching-start, searching-more, searching-end}
use Rattle.defect_walk.proofs.standing.child_at.Goals as goal

pub loop-next-init : goal.loop-next-init
loop-next-init c = search (searching-start, rules)

pub loop-next-smaller : goal.loop-next-smaller
loop-next-smaller c = omega (arith, c.loop-next.invariant.behind.past c.loop-next.invariant.inside)

pub loop-next-preserved : goal.loop-next-preserved
loop-next-preserved c = search (searching-more, rules)

pub returns : goal.returns
returns c = search (searching-end, rules)
