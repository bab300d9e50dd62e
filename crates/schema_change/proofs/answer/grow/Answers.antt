-- `schema_change::answer::grow` meets its contract: a breach that was found before stays.
use borrow.Author.Rules.{rules}
use Rattle.schema_change.proofs.Joins.{grow-marks, grow-anything, refuted-stays}
use Rattle.schema_change.proofs.answer.grow.Goals as goal

pub returns-in-Marks : goal.returns-in-Marks
returns-in-Marks c = search (grow-marks, rules)

pub returns-in-Anything : goal.returns-in-Anything
returns-in-Anything c = search (grow-anything, rules)

pub returns-in-Refuted : goal.returns-in-Refuted
returns-in-Refuted c = search (refuted-stays, rules)
