-- `walk::path::is_count` meets its contract.
use Rattle.walk.proofs.StepLaws.{count-spelt}
use borrow.Author.Rules.{rules}
use Rattle.walk.proofs.path.is_count.Goals as goal

pub returns : goal.returns
returns c = search (count-spelt, rules)
