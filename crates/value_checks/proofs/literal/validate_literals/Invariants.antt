-- `value_checks::literal::validate_literals` meets its contract: the words passed so far have been judged.
use Prim.Native.Nat.{◌-◌, ◌≤◌}
use Rattle.value_checks.specs.Verdicts.{going}
use Rattle.value_checks.specs.Literals.{LiteralsJudged}
use Rattle.value_checks.proofs.literal.validate_literals.Given as goal

abbrev pub invariant-loop-i : goal.invariant-loop-i
invariant-loop-i l = (l.i - l.start ≤ l.end - l.start) × LiteralsJudged l.rule l.words l.start (l.i - l.start) (going l.initial.so_far) (going l.so_far)
