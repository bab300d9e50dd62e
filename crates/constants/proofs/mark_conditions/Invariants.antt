-- `constants::mark_conditions` meets its contract: at each turn the conditions that are left begin at the next word.
use Prim.Native.Nat.{◌-◌, ◌≤◌}
use mathlib.Core.Path.{◌≡◌}
use lib.ListN.{length}
use Rattle.constants.proofs.MarkSteps.{MarksLeft}
use Rattle.constants.proofs.mark_conditions.Given as goal

abbrev pub invariant-loop-i : goal.invariant-loop-i
invariant-loop-i l = (l.count ≤ l.i) × (length l.marks ≡ length l.initial.marks) × MarksLeft l.rule l.words l.start l.i l.end l.initial.marks l.marks l.count

abbrev pub decreases-loop-i : goal.decreases-loop-i
decreases-loop-i l = l.end - l.i
