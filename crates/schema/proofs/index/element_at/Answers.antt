-- `schema::index::element_at` meets its contract, by cases.
use Rattle.schema.specs.Slot.{element_from}
use Rattle.schema.proofs.index.element_at.Goals as goal

pub returns-then-has : goal.returns-then-has
unfolding element_from
returns-then-has c = rw c.if-has.true

pub returns-else-has : goal.returns-else-has
unfolding element_from
returns-else-has c = rw c.if-has.false
