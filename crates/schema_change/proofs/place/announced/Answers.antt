-- `schema_change::place::announced` meets its contract.
use borrow.Author.Rules.{rules}
use Rattle.schema_change.proofs.Skipping.{announced-items, announced-none}
use Rattle.schema_change.proofs.place.announced.Goals as goal

pub returns-then-head : goal.returns-then-head
returns-then-head c = search (announced-items, rules)

pub returns-else-head : goal.returns-else-head
returns-else-head c = search (announced-none, rules)
