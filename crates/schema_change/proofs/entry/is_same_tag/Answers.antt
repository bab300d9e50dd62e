-- `schema_change::entry::is_same_tag` meets its contract.
use borrow.Author.Rules.{rules}
use Rattle.schema_change.proofs.EntryLaws.{tags-both, tags-first, tags-second, tags-neither}
use Rattle.schema_change.proofs.entry.is_same_tag.Goals as goal

pub returns-in-Some-y : goal.returns-in-Some-y
returns-in-Some-y c = search (tags-both, rules)

pub returns-in-None-y : goal.returns-in-None-y
returns-in-None-y c = search (tags-first, rules)

pub returns-in-Some-y-2 : goal.returns-in-Some-y-2
returns-in-Some-y-2 c = search (tags-second, rules)

pub returns-in-None-y-2 : goal.returns-in-None-y-2
returns-in-None-y-2 c = search (tags-neither, rules)
