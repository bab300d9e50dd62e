-- `constants::mark_constants` meets its contract, by the sheet's first entry.
use native.Mathlib.Omega.{arith}
use Rattle.sheet.specs.Places.{rule_of}
use Rattle.constants.proofs.MarkSteps.{rule-unread, rule-template, rule-conditions}
use Rattle.constants.proofs.mark_constants.Goals as goal

pub returns-in_default : goal.returns-in_default
returns-in_default c = rule-unread c.start_of.ensures c.args.marks.now (rw c.in_default.is at c.rule_head.ensures)

pub returns-in_default-head : goal.returns-in_default-head
unfolding rule_of
returns-in_default-head c = rule-template c.start_of.ensures c.args.marks.now (rw (c.in-Some.is, c.in_default-head.is) at c.rule_head.ensures)

pub mark_conditions-requires : goal.mark_conditions-requires
mark_conditions-requires c = omega (arith, c.end_of.ensures)

pub returns : goal.returns
unfolding rule_of
returns c = rule-conditions c.start_of.ensures (rw (c.in-Some.is, c.in-Rule.is) at c.rule_head.ensures) c.end_of.ensures c.mark_conditions.ensures
