use Rattle.schema_edits.proofs.PlaceSteps.{Finding}
use Rattle.schema_edits.proofs.place.find_place.Given as goal

abbrev pub invariant-loop : goal.invariant-loop
invariant-loop l = Finding l.s l.start l.count l.name l.at l.counter
