-- `scope::collections::begins_with_dollar` meets its contract.
use Rattle.scope.proofs.CollectionLaws.{dollar-first, dollar-nowhere}
use borrow.Author.Rules.{rules}
use Rattle.scope.proofs.collections.begins_with_dollar.Goals as goal

pub returns-then-text-eq0 : goal.returns-then-text-eq0
returns-then-text-eq0 c = search (dollar-nowhere, rules)

pub returns : goal.returns
returns c = search (dollar-first, rules)
