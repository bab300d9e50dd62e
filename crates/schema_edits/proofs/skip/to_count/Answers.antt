-- `schema_edits::skip::to_count` meets its contract, by cases.
use native.Mathlib.Omega.{arith}
use Rattle.definition.specs.Decode.{to_count}
use Rattle.schema_edits.proofs.skip.to_count.Goals as goal

pub returns-then-has : goal.returns-then-has
unfolding to_count
returns-then-has c = (rw c.if-has.true, omega arith)

pub returns-else-has : goal.returns-else-has
unfolding to_count
returns-else-has c = (rw c.if-has.false, omega arith)
