-- `entity_rules::change::told_change` meets its contract.
use borrow.Author.Rules.{rules}
use Rattle.entity_rules.proofs.WidensEntries.{marks-told, anything-told, refuted-told}
use Rattle.entity_rules.proofs.change.told_change.Goals as goal

pub returns-in-Marks : goal.returns-in-Marks
returns-in-Marks c = search (marks-told, rules)

pub returns-in-Anything : goal.returns-in-Anything
returns-in-Anything c = search (anything-told, rules)

pub returns-in-Refuted : goal.returns-in-Refuted
returns-in-Refuted c = search (refuted-told, rules)
