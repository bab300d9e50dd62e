-- `constants::mark_of` meets its contract.
use Rattle.validation.specs.Constant.{mark_of}
use native.Mathlib.Omega.{arith}
use Rattle.constants.proofs.mark_of.Goals as goal

pub returns-then-truth : goal.returns-then-truth
unfolding mark_of
returns-then-truth c = rw c.if-truth.true

pub returns-else-truth : goal.returns-else-truth
unfolding mark_of
returns-else-truth c = rw c.if-truth.false (omega arith)
