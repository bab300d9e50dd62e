-- `openings::search::open_sheets` meets its contract: each way to its end.
use mathlib.Core.Path.{refl}
use Rattle.openings.proofs.SearchSteps.{no-schema, no-rule, sheets-listed}
use Rattle.openings.proofs.search.open_sheets.Goals as goal

pub returns-in_default : goal.returns-in_default
returns-in_default c = no-schema c.read_schema.ensures c.in_default.is c.refused.ensures

pub returns-in_default-read_rule : goal.returns-in_default-read_rule
returns-in_default-read_rule c = no-rule c.read_schema.ensures c.in-Some.is c.read_rule.ensures c.in_default-read_rule.is c.refused-in_default-read_rule.ensures

pub returns : goal.returns
returns c = sheets-listed c.read_schema.ensures c.in-Some.is c.read_rule.ensures c.in-Some-read_rule.is c.list_marks.new.sheet c.requires.0 c.put-end.ensures refl refl c.list_marks.auto.sheet c.list_marks.ensures
