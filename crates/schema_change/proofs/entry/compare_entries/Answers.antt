-- `schema_change::entry::compare_entries` meets its contract: four tests, one after the other.
use borrow.Author.Rules.{rules}
use Rattle.schema_change.proofs.EntryLaws.{entries-go}
use Rattle.schema_change.proofs.entry.compare_entries.Goals as goal

pub returns : goal.returns
returns c = search (entries-go, rules)
