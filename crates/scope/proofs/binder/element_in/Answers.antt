-- `scope::binder::element_in` meets its contract.
use Rattle.scope.proofs.BinderLaws.{unknown-in, known_in}
use borrow.Author.Rules.{rules}
use Rattle.scope.proofs.binder.element_in.Goals as goal

pub returns-then-number-eq0 : goal.returns-then-number-eq0
returns-then-number-eq0 c = search (unknown-in, rules)

pub returns : goal.returns
returns c = search (known_in, rules)
