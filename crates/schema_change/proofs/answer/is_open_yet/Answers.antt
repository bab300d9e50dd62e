-- `schema_change::answer::is_open_yet` meets its contract.
use borrow.Author.Rules.{rules}
use Rattle.schema_change.proofs.Joins.{open-marks, open-anything, shut-refuted}
use Rattle.schema_change.proofs.answer.is_open_yet.Goals as goal

pub returns-in-Marks : goal.returns-in-Marks
returns-in-Marks c = search (open-marks, rules)

pub returns-in-Anything : goal.returns-in-Anything
returns-in-Anything c = search (open-anything, rules)

pub returns-in-Refuted : goal.returns-in-Refuted
returns-in-Refuted c = search (shut-refuted, rules)
