use Rattle.scope.proofs.NameLaws.{one_found, one-passed, one_none}
use borrow.Author.Rules.{rules}
use Rattle.scope.proofs.name.one_of.Goals as goal

pub returns-then-kind-other : goal.returns-then-kind-other
returns-then-kind-other c = search (one_found, rules)

pub loop-other-preserved : goal.loop-other-preserved
loop-other-preserved c = search (one-passed, rules)

pub returns : goal.returns
returns c = search (one_none, rules)
