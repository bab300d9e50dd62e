use Prim.Native.Nat.{◌-◌}
use mathlib.Core.Path.{refl}
use Rattle.defect_path.proofs.ConditionSteps.{condition-led, condition-led-on, condition-led-to, operand-led-to, done-led-to}
use native.Mathlib.Omega.{arith}
use borrow.Author.Rules.{rules}
use Rattle.defect_path.proofs.condition.put_condition.Goals as goal

pub loop-word-init : goal.loop-word-init
loop-word-init c = (condition-led, refl)

pub loop-word-smaller : goal.loop-word-smaller
loop-word-smaller c = let r = (rw c.in-Condition.is at c.condition_step.ensures).1 in omega arith

pub loop-word-preserved : goal.loop-word-preserved
loop-word-preserved c = (condition-led-on c.loop-word.invariant.0 (rw c.in-Condition.is at c.condition_step.ensures).0, search rules)

pub returns-in-Value : goal.returns-in-Value
returns-in-Value c = operand-led-to c.loop-word.invariant.0 (rw c.in-Value.is at c.condition_step.ensures) c.put_value.ensures

pub returns-in-Done : goal.returns-in-Done
returns-in-Done c = done-led-to c.loop-word.invariant.0 (rw c.in-Done.is at c.condition_step.ensures)

pub returns : goal.returns
returns c = condition-led-to c.loop-word.invariant.0 c.loop-word-test.false c.put_end.ensures
