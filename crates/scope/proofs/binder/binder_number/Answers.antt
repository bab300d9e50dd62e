-- `scope::binder::binder_number` meets its contract.
use Rattle.scope.specs.Binders.{binder_number}
use borrow.Author.Rules.{rules}
use Rattle.scope.proofs.binder.binder_number.Goals as goal

pub returns : goal.returns
unfolding binder_number
returns c = search rules
