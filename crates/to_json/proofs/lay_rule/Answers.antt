-- `to_json::lay_rule` meets its contract.
use Rattle.to_json.proofs.Laying.{rule-unread, rule-template, rule-lays}
use mathlib.Core.Path.{◌∙◌}
use Rattle.sheet.specs.Places.{rule_of}
use native.Mathlib.Omega.{arith}
use Rattle.to_json.proofs.lay_rule.Goals as goal

pub returns-in_default : goal.returns-in_default
returns-in_default c = rule-unread c.start_of.ensures (rw c.in_default.is at c.rule_head.ensures)

pub shape_of-out : goal.shape_of-out
shape_of-out c = c.lay_message.ensures.len ∙ c.lay_conditions-b.auto.out ∙ c.lay_name-a.ensures.len

pub returns-in-Rule : goal.returns-in-Rule
unfolding rule_of
returns-in-Rule c = rule-lays c.start_of.ensures (omega (arith, c.type_inv)) (rw c.in-Rule.is at (rw c.in-Some.is at c.rule_head.ensures)) c.lay_name-a.ensures c.lay_conditions-b.ensures c.lay_message.ensures

pub returns-in-Template : goal.returns-in-Template
unfolding rule_of
returns-in-Template c = rule-template c.start_of.ensures (rw c.in-Template.is at (rw c.in-Some.is at c.rule_head.ensures))
