-- `value_checks::references::validate_references` meets its contract: the words passed so far have been judged.
use Prim.Native.Nat.{◌-◌, ◌≤◌}
use Rattle.value_checks.specs.Verdicts.{going}
use Rattle.value_checks.specs.Frames.{frame, ReferencesIn}
use Rattle.value_checks.proofs.references.validate_references.Given as goal

abbrev pub invariant-loop-i : goal.invariant-loop-i
invariant-loop-i l = (l.i - l.start ≤ l.end - l.start) × ReferencesIn (frame l.schema l.rule l.words l.scope l.over) l.start (l.i - l.start) (going l.initial.so_far) (going l.so_far)
