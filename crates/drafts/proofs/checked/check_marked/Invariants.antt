-- `drafts::checked::check_marked` meets its contract: what is put, and what is still to be put, make all records.
use Prim.Native.Nat.{◌/◌}
use mathlib.Core.Path.{◌≡◌}
use lib.ListN.{length}
use Rattle.drafts.proofs.CheckedSteps.{CheckedSoFar}
use Rattle.drafts.proofs.checked.check_marked.Given as goal

abbrev pub invariant-loop-i : goal.invariant-loop-i
invariant-loop-i l = (l.count ≡ length l.heads / 16) × CheckedSoFar l.table l.schema l.read l.heads l.texts l.marks l.initial.records l.initial.path l.initial.scratch l.i l.at l.records l.path l.scratch
