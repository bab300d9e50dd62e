-- `drafts::sheets::read_sheets` meets its contract: each way to its end.
use Rattle.drafts.proofs.SheetSteps.{no-schema, all_read, no-rule}
use Rattle.drafts.proofs.sheets.read_sheets.Goals as goal

pub returns-in_default : goal.returns-in_default
returns-in_default c = no-schema c.read_schema.ensures c.in_default.is

pub returns-then-read_rules : goal.returns-then-read_rules
returns-then-read_rules c = all_read c.read_schema.ensures c.in-Some.is c.read_rules.ensures c.if-read_rules.true

pub returns : goal.returns
returns c = no-rule c.read_schema.ensures c.in-Some.is c.read_rules.ensures c.if-read_rules.false
