-- `schema_change::schema_sheets::compare_arguments` meets its contract.
use borrow.Author.Rules.{rules}
use Rattle.schema_change.proofs.SchemaLaws.{arguments-first, arguments-second, arguments-fields}
use Rattle.schema_change.proofs.schema_sheets.compare_arguments.Goals as goal

pub returns-in_default : goal.returns-in_default
returns-in_default c = search (arguments-first, rules)

pub returns-in_default-y : goal.returns-in_default-y
returns-in_default-y c = search (arguments-second, rules)

pub returns : goal.returns
returns c = search (arguments-fields, rules)
