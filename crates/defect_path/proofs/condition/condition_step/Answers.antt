use Rattle.defect_path.proofs.ConditionSteps.{step-refused, step-whole, step-to-value, step-to-condition}
use native.Mathlib.Omega.{arith}
use Rattle.defect_path.proofs.condition.condition_step.Goals as goal

pub returns-in_default : goal.returns-in_default
returns-in_default c = step-refused c.start_of.ensures (rw c.in_default.is at c.condition_head.ensures)

pub returns-then-is_whole : goal.returns-then-is_whole
returns-then-is_whole c = step-whole c.start_of.ensures (rw c.in-Some.is at c.condition_head.ensures).0.reads c.requires.0 (c.is_whole.ensures _) c.if-is_whole.true

pub returns-then-is_value_at : goal.returns-then-is_value_at
returns-then-is_value_at c = step-to-value c.start_of.ensures (rw c.in-Some.is at c.condition_head.ensures).0.reads c.requires.0 (c.is_whole.ensures _) c.if-is_whole.false c.find_sibling-inner.ensures.0 (c.put_part-next.ensures _) (c.is_value_at.ensures _) c.if-is_value_at.true

pub returns : goal.returns
returns c = (step-to-condition c.start_of.ensures (rw c.in-Some.is at c.condition_head.ensures).0.reads c.requires.0 (c.is_whole.ensures _) c.if-is_whole.false c.find_sibling-inner.ensures.0 (c.put_part-next.ensures _) (c.is_value_at.ensures _) c.if-is_value_at.false, omega (arith, c.find_sibling-inner.ensures.1))
