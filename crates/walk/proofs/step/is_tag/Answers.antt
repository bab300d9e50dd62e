-- `walk::step::is_tag` meets its contract.
use Rattle.walk.proofs.StepLaws.{tag-none, tag_same}
use borrow.Author.Rules.{rules}
use Rattle.walk.proofs.step.is_tag.Goals as goal

pub returns-in-Some : goal.returns-in-Some
returns-in-Some c = search (tag_same, rules)

pub returns-in-None : goal.returns-in-None
returns-in-None c = search (tag-none, rules)
