-- `scope::binder::element_number` meets its contract.
use Rattle.scope.proofs.BinderLaws.{known-number, unknown-number}
use borrow.Author.Rules.{rules}
use Rattle.scope.proofs.binder.element_number.Goals as goal

pub returns-in-Some : goal.returns-in-Some
returns-in-Some c = search (known-number, rules)

pub returns-in-None : goal.returns-in-None
returns-in-None c = search (unknown-number, rules)
