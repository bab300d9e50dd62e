-- `schema::index::to_count` meets its contract, by cases.
use Rattle.definition.specs.Decode.{to_count}
use Rattle.schema.proofs.index.to_count.Goals as goal

pub returns-then-is : goal.returns-then-is
unfolding to_count
returns-then-is c = rw c.if-is.true

pub returns-else-is : goal.returns-else-is
unfolding to_count
returns-else-is c = rw c.if-is.false
