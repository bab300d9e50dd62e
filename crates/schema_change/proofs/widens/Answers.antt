-- `schema_change::widens` meets its contract: each sheet is refused exactly if it is not well formed, and both are compared entry by entry.
use borrow.Author.Rules.{rules}
use Rattle.schema_change.proofs.SchemaLaws.{good-short, first-malformed, second-malformed, both-decided}
use Rattle.schema_change.proofs.widens.Goals as goal

pub returns-in_default : goal.returns-in_default
returns-in_default c = search (first-malformed, rules)

pub returns-in_default-read_schema : goal.returns-in_default-read_schema
returns-in_default-read_schema c = search (second-malformed, rules)

pub compare_schemas-change-requires : goal.compare_schemas-change-requires
compare_schemas-change-requires c = search (good-short, rules)

pub returns : goal.returns
returns c = search (both-decided, rules)
