-- `schema_change::schema_sheets::compare_arguments_marks` meets its contract.
use borrow.Author.Rules.{rules}
use Rattle.schema_change.proofs.SchemaLaws.{arguments-both, arguments-gone, arguments-appear, arguments-neither}
use Rattle.schema_change.proofs.schema_sheets.compare_arguments_marks.Goals as goal

pub returns-in-Some-y : goal.returns-in-Some-y
returns-in-Some-y c = search (arguments-both, rules)

pub returns-in-None-y : goal.returns-in-None-y
returns-in-None-y c = search (arguments-gone, rules)

pub returns-in-Some-y-2 : goal.returns-in-Some-y-2
returns-in-Some-y-2 c = search (arguments-appear, rules)

pub returns-in-None-y-2 : goal.returns-in-None-y-2
returns-in-None-y-2 c = search (arguments-neither, rules)
