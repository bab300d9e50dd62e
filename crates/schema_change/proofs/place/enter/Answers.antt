-- `schema_change::place::enter` meets its contract.
use borrow.Author.Rules.{rules}
use Rattle.schema_change.proofs.PlaceLaws.{enter-bad, enter-good}
use Rattle.schema_change.proofs.place.enter.Goals as goal

pub returns-in_err-head : goal.returns-in_err-head
returns-in_err-head c = rw c.from_residual.ensures (search (enter-bad, rules))

pub returns : goal.returns
returns c = search (enter-good, rules)
