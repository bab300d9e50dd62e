use Rattle.single_check.proofs.SheetSteps.{sheet-no-schema, sheet-no-rule, sheet-not-taken, sheet-answered}
use Rattle.single_check.proofs.sheets.check_sheet.Goals as goal

pub returns-in_default : goal.returns-in_default
returns-in_default c = sheet-no-schema c.in_default.is c.refused.ensures

pub returns-in_default-read_rule : goal.returns-in_default-read_rule
returns-in_default-read_rule c = sheet-no-rule c.in-Some.is c.read_rule.ensures c.in_default-read_rule.is c.refused-in_default-read_rule.ensures

pub returns-then-is_let_in : goal.returns-then-is_let_in
returns-then-is_let_in c = sheet-answered c.in-Some.is c.read_rule.ensures c.in-Some-read_rule.is c.is_let_in.ensures c.if-is_let_in.true c.answer.ensures

pub returns : goal.returns
returns c = sheet-not-taken c.in-Some.is c.read_rule.ensures c.in-Some-read_rule.is c.is_let_in.ensures c.if-is_let_in.false c.refused-2.ensures
