use Rattle.defect_path.proofs.ConditionSteps.{step-refused, step-own}
use Rattle.defect_path.proofs.condition.put_end.Goals as goal

pub returns-in_default : goal.returns-in_default
returns-in_default c = step-refused c.start_of.ensures (rw c.in_default.is at c.condition_head.ensures)

pub returns : goal.returns
returns c = step-own c.start_of.ensures (rw c.in-Some.is at c.condition_head.ensures).0.reads (c.put_own.ensures _)
