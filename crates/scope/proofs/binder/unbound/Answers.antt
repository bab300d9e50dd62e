-- `scope::binder::unbound` meets its contract.
use Rattle.scope.proofs.BinderLaws.{unbound-none}
use borrow.Author.Rules.{rules}
use Rattle.scope.proofs.binder.unbound.Goals as goal

pub returns : goal.returns
returns c = search (unbound-none, rules)
