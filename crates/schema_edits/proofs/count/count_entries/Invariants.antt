use Prim.Native.Nat.{◌-◌}
use lib.ListN.{length}
use Rattle.schema_edits.proofs.CountSteps.{Counting}
use Rattle.schema_edits.proofs.count.count_entries.Given as goal

abbrev pub invariant-loop-at : goal.invariant-loop-at
invariant-loop-at l = Counting l.s l.start l.at l.n

abbrev pub decreases-loop-at : goal.decreases-loop-at
decreases-loop-at l = length l.s - l.at
