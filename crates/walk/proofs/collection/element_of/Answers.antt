-- `walk::collection::element_of` meets its contract.
use Rattle.walk.proofs.CollectionLaws.{of-known, of-refused, of-unknown}
use borrow.Author.Rules.{rules}
use Rattle.walk.proofs.collection.element_of.Goals as goal

pub returns-in-Ok-Some : goal.returns-in-Ok-Some
returns-in-Ok-Some c = search (of-known, rules)

pub returns-in-Ok-None : goal.returns-in-Ok-None
returns-in-Ok-None c = search (of-unknown, rules)

pub returns-in-Err : goal.returns-in-Err
returns-in-Err c = search (of-refused, rules)
