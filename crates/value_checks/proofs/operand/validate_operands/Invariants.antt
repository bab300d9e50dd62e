-- `value_checks::operand::validate_operands` meets its contract: at each turn the operands that are left are at the next word.
use Prim.Native.Nat.{◌-◌, ◌≤◌}
use Rattle.value_checks.specs.Verdicts.{going}
use Rattle.value_checks.specs.Frames.{frame}
use Rattle.value_checks.proofs.OperandSteps.{OperandsLeft}
use Rattle.value_checks.proofs.operand.validate_operands.Given as goal

abbrev pub invariant-loop-i : goal.invariant-loop-i
invariant-loop-i l = (l.start ≤ l.i) × (l.i - l.start ≤ l.end - l.start) × OperandsLeft (frame l.schema l.rule l.words l.scope l.over) l.op l.which l.start l.i l.end (going l.initial.so_far) (going l.so_far)

abbrev pub decreases-loop-i : goal.decreases-loop-i
decreases-loop-i l = l.end - l.i
