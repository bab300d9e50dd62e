-- `constants::truth_of` meets its contract.
use Rattle.constants.proofs.ConstantSteps.{truth-before, truth-after, truth-none}
use Rattle.constants.proofs.truth_of.Goals as goal

pub returns-then-op-eq-BEFORE : goal.returns-then-op-eq-BEFORE
returns-then-op-eq-BEFORE c = let a = c.args in truth-before a.op a.left a.right c.if-op-eq-BEFORE.true c.is_earlier.ensures

pub returns-then-op-eq-AFTER : goal.returns-then-op-eq-AFTER
returns-then-op-eq-AFTER c = let a = c.args in truth-after a.op a.left a.right c.if-op-eq-AFTER.true c.is_earlier-then-op-eq-AFTER.ensures

pub returns : goal.returns
returns c = let a = c.args in truth-none a.op a.left a.right c.if-op-eq-BEFORE.false c.if-op-eq-AFTER.false
