-- `openings::list::put_marks` meets its contract: the list has what is marked so far.
use Rattle.openings.proofs.ListSteps.{Listing}
use Rattle.openings.proofs.list.put_marks.Given as goal

abbrev pub invariant-loop-e : goal.invariant-loop-e
invariant-loop-e l = Listing l.marks l.initial.list l.list l.count l.at l.e
