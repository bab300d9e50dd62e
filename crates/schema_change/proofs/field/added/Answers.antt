-- `schema_change::field::added` meets its contract.
use borrow.Author.Rules.{rules}
use Rattle.schema_change.proofs.Joins.{added-breach, added-grows}
use Rattle.schema_change.proofs.field.added.Goals as goal

pub returns-then-opened : goal.returns-then-opened
returns-then-opened c = search (added-breach, rules)

pub returns : goal.returns
returns c = search (added-grows, rules)
