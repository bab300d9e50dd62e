-- `scope::collections::behind_first` meets its contract.
use Rattle.scope.proofs.CollectionLaws.{behind_more, behind-nothing, behind-one}
use borrow.Author.Rules.{rules}
use Rattle.scope.proofs.collections.behind_first.Goals as goal

pub returns-then-text-eq0 : goal.returns-then-text-eq0
returns-then-text-eq0 c = search (behind-nothing, rules)

pub returns-then-text-lt128 : goal.returns-then-text-lt128
returns-then-text-lt128 c = search (behind-one, rules)

pub returns : goal.returns
returns c = search (behind_more, rules)
