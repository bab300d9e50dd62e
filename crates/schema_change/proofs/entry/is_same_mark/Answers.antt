-- `schema_change::entry::is_same_mark` meets its contract.
use borrow.Author.Rules.{rules}
use Rattle.schema_change.specs.Entries.{same_mark}
use Rattle.schema_change.proofs.entry.is_same_mark.Goals as goal

pub returns-then-first : goal.returns-then-first
unfolding same_mark
returns-then-first c = search rules

pub returns-else-first : goal.returns-else-first
unfolding same_mark
returns-else-first c = search rules
