-- `walk::collection::last_field` meets its contract.
use Rattle.walk.proofs.PathLaws.{last-field-free, last-field-into, last-field-refuse}
use borrow.Author.Rules.{rules}
use Rattle.walk.proofs.collection.last_field.Goals as goal

pub returns-in-Err : goal.returns-in-Err
returns-in-Err c = search (last-field-refuse, rules)

pub returns-in-Ok-None : goal.returns-in-Ok-None
returns-in-Ok-None c = search (last-field-free, rules)

pub returns-in-Ok-Some : goal.returns-in-Ok-Some
returns-in-Ok-Some c = search (last-field-into, rules)
