-- `walk::path::has_dot` meets its contract.
use borrow.Author.Rules.{rules}
use Rattle.walk.proofs.Dots.{ends_more}
use Rattle.walk.proofs.path.has_dot.Goals as goal

pub returns : goal.returns
returns c = search (ends_more, rules)
