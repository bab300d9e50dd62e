-- `rule::value::cost_of` meets its contract: so few keys are announced that twice their number fits.
use native.Mathlib.Omega.{arith}
use Rattle.rule.proofs.value.cost_of.Goals as goal

pub overflow_mul-result : goal.overflow_mul-result
overflow_mul-result c = let few = rw c.in-Pairs.is at c.requires in omega (arith, few)

pub returns-in-Values : goal.returns-in-Values
returns-in-Values c = rw c.in-Values.is

pub returns-in-Pairs : goal.returns-in-Pairs
returns-in-Pairs c = rw c.in-Pairs.is
