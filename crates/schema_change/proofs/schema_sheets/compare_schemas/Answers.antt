-- `schema_change::schema_sheets::compare_schemas` meets its contract: heads, fields, arguments.
use borrow.Author.Rules.{rules}
use Rattle.schema_change.proofs.SchemaLaws.{head-within, first-headless, second-headless, schemas-go}
use Rattle.schema_change.proofs.schema_sheets.compare_schemas.Goals as goal

pub returns-in_default : goal.returns-in_default
returns-in_default c = search (first-headless, rules)

pub returns-in_default-schema_head : goal.returns-in_default-schema_head
returns-in_default-schema_head c = search (second-headless, rules)

pub compare_members-fields-requires : goal.compare_members-fields-requires
compare_members-fields-requires c = search (head-within, rules)

pub returns : goal.returns
returns c =
    schemas-go c.schema_head.ensures c.in-Some.is c.schema_head-2.ensures c.in-Some-schema_head.is c.mark_closes.ensures c.refute_if-mark.ensures
    c.compare_arguments_marks-found.ensures c.compare_members-fields.ensures c.compare_arguments.ensures
