-- `open_marks::field_mark` meets its contract: what is right from the entry that is reached on is right from the start on.
use Rattle.open_marks.proofs.FieldSteps.{Sought}
use Rattle.open_marks.proofs.field_mark.Given as goal

abbrev pub invariant-loop : goal.invariant-loop
invariant-loop l = Sought l.s l.start l.entry l.at l.counter
