use Prim.Native.Nat.{◌-◌}
use lib.ListN.{length}
use Rattle.schema_edits.proofs.SkipSteps.{Skipping}
use Rattle.schema_edits.proofs.skip.skip_field.Given as goal

abbrev pub invariant-loop-pending : goal.invariant-loop-pending
invariant-loop-pending l = Skipping l.s l.at l.pending l.next

abbrev pub decreases-loop-pending : goal.decreases-loop-pending
decreases-loop-pending l = length l.s - l.next
