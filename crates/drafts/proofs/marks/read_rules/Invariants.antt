-- `drafts::marks::read_rules` meets its contract.
use Prim.Native.Nat.{◌/◌}
use mathlib.Core.Path.{◌≡◌}
use lib.ListN.{length}
use Rattle.drafts.proofs.MarkSteps.{ReadSoFar}
use Rattle.drafts.proofs.marks.read_rules.Given as goal

abbrev pub invariant-loop-i : goal.invariant-loop-i
invariant-loop-i l = (l.count ≡ length l.heads / 16) × ReadSoFar l.name l.heads l.texts l.initial.marks l.initial.scratch l.i l.at l.marks l.scratch
