-- `entity_rules::change::told` meets its contract.
use borrow.Author.Rules.{rules}
use Rattle.entity_rules.proofs.WidensEntries.{malformed-told, change-told}
use Rattle.entity_rules.proofs.change.told.Goals as goal

pub returns-in-Err : goal.returns-in-Err
returns-in-Err c = search (malformed-told, rules)

pub returns-in-Ok : goal.returns-in-Ok
returns-in-Ok c = search (change-told, rules)
