-- `schema_change::entry::mark_closes` meets its contract.
use borrow.Author.Rules.{rules}
use Rattle.widening.specs.Decision.{closes}
use Rattle.schema_change.proofs.entry.mark_closes.Goals as goal

pub returns-then-first : goal.returns-then-first
unfolding closes
returns-then-first c = search rules

pub returns-else-first : goal.returns-else-first
unfolding closes
returns-else-first c = search rules
