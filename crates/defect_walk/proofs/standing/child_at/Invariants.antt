use Prim.Native.Nat.{◌-◌}
use Rattle.defect_walk.proofs.ChildSteps.{Searching}
use Rattle.defect_walk.proofs.standing.child_at.Given as goal

abbrev pub invariant-loop-next : goal.invariant-loop-next
invariant-loop-next l = Searching l.words l.start l.end l.target l.word l.next

abbrev pub decreases-loop-next : goal.decreases-loop-next
decreases-loop-next l = l.end - l.word
