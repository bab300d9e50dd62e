-- `condition_checks::rules::judge` meets its contract, by the first entry of the sheet.
use native.Mathlib.Omega.{arith}
use Rattle.sheet.specs.Places.{rule_of}
use Rattle.condition_checks.proofs.RuleSteps.{judge-bad, judge-rule, judge-template}
use Rattle.condition_checks.proofs.rules.judge.Goals as goal

pub returns-in_default : goal.returns-in_default
returns-in_default c = rw c.going.ensures (judge-bad c.start_of.ensures c.end_of-end.ensures (rw c.in_default.is at c.rule_head.ensures))

pub validate_operands-requires : goal.validate_operands-requires
validate_operands-requires c = (record { fits = omega (arith, c.end_of-end.ensures) }, omega (arith, c.end_of-end.ensures))

pub returns-in_default-head : goal.returns-in_default-head
unfolding rule_of
returns-in_default-head c = judge-template c.start_of.ensures c.end_of-end.ensures (rw (c.in-Some.is, c.in_default-head.is) at c.rule_head.ensures) c.validate_operands.ensures

pub validate_rule_definition-requires : goal.validate_rule_definition-requires
validate_rule_definition-requires c = omega (arith, c.end_of-end.ensures)

pub returns : goal.returns
unfolding rule_of
returns c = judge-rule c.start_of.ensures c.end_of-end.ensures (rw (c.in-Some.is, c.in-Rule.is) at c.rule_head.ensures) c.validate_rule_definition.ensures
