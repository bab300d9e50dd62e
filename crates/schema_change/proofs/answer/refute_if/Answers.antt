-- `schema_change::answer::refute_if` meets its contract.
use borrow.Author.Rules.{rules}
use Rattle.schema_change.proofs.Joins.{refute-if-so, refute-if-not}
use Rattle.schema_change.proofs.answer.refute_if.Goals as goal

pub returns-then-is : goal.returns-then-is
returns-then-is c = search (refute-if-so, rules)

pub returns-else-is : goal.returns-else-is
returns-else-is c = search (refute-if-not, rules)
