-- `scope::binder::bind` meets its contract.
use Rattle.scope.proofs.BinderLaws.{bind-more}
use Rattle.scope.proofs.BinderLaws.{bind-crowded}
use native.Mathlib.Omega.{arith}
use borrow.Author.Rules.{rules}
use Rattle.scope.proofs.binder.bind.Goals as goal

pub returns-then-count-ge-MAX_BINDERS : goal.returns-then-count-ge-MAX_BINDERS
returns-then-count-ge-MAX_BINDERS c = search (bind-crowded, rules)

pub returns : goal.returns
returns c = bind-more _ _ _ _ c.binder_number.ensures (omega arith) (omega arith)
