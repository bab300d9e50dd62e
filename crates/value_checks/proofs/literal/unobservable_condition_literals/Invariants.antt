-- `value_checks::literal::unobservable_condition_literals` meets its contract: at each turn the conditions that are left are at the next word.
use Prim.Native.Nat.{◌-◌, ◌≤◌}
use Rattle.value_checks.specs.Verdicts.{going}
use Rattle.value_checks.proofs.ObservedSteps.{LiteralsLeft}
use Rattle.value_checks.proofs.literal.unobservable_condition_literals.Given as goal

abbrev pub invariant-loop-i : goal.invariant-loop-i
invariant-loop-i l = (l.start ≤ l.i) × (l.i - l.start ≤ l.end - l.start) × LiteralsLeft l.rule l.words l.start l.i l.end (going l.initial.so_far) (going l.so_far)

abbrev pub decreases-loop-i : goal.decreases-loop-i
decreases-loop-i l = l.end - l.i
