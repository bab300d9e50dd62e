-- `drafts::refusals::refused_rules` meets its contract.
use Prim.Native.Nat.{◌/◌}
use mathlib.Core.Path.{◌≡◌}
use lib.ListN.{length}
use Rattle.drafts.proofs.LentSteps.{Looked}
use Rattle.drafts.proofs.refusals.refused_rules.Given as goal

abbrev pub invariant-loop-i : goal.invariant-loop-i
invariant-loop-i l = (l.count ≡ length l.heads / 16) × Looked l.heads l.texts l.i l.at l.found
