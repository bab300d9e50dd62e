-- `walk::step::item_step` meets its contract.
use Rattle.walk.proofs.StepLaws.{item-free, item-into}
use borrow.Author.Rules.{rules}
use Rattle.walk.proofs.step.item_step.Goals as goal

pub returns-in-Some : goal.returns-in-Some
returns-in-Some c = search (item-into, rules)

pub returns-in-None : goal.returns-in-None
returns-in-None c = search (item-free, rules)
