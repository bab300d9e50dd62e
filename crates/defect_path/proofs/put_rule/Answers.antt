use Rattle.defect_path.proofs.RuleSteps.{root-refused, root-nowhere, root-rule, root-template}
use Rattle.sheet.specs.Places.{rule_of}
use Rattle.defect_path.proofs.put_rule.Goals as goal

pub returns-in_default : goal.returns-in_default
returns-in_default c = root-refused c.start_of.ensures (rw c.in_default.is at c.rule_head.ensures)

pub returns-then-place-eq0 : goal.returns-then-place-eq0
returns-then-place-eq0 c = root-nowhere c.if-place-eq0.true

pub returns-in-Rule : goal.returns-in-Rule
unfolding rule_of
returns-in-Rule c = root-rule c.start_of.ensures c.to_size-target.ensures c.if-place-eq0.false (rw c.in-Rule.is at (rw c.in-Some.is at c.rule_head.ensures)).reads c.put_assert.ensures

pub returns-in-Template : goal.returns-in-Template
unfolding rule_of
returns-in-Template c = root-template c.start_of.ensures c.to_size-target.ensures c.if-place-eq0.false (rw c.in-Template.is at (rw c.in-Some.is at c.rule_head.ensures)).reads c.put_value.ensures
