-- `text::is_between` meets its contract.
use borrow.Author.Tests.{le-leb, lt-leb}
use Rattle.text.specs.Utf8.{between}
use Rattle.text.proofs.is_between.Goals as goal

pub returns-then-low-b : goal.returns-then-low-b
unfolding between
returns-then-low-b c = rw (le-leb _ _ c.if-low-b.true)

pub returns-else-low-b : goal.returns-else-low-b
unfolding between
returns-else-low-b c = rw (lt-leb _ _ c.if-low-b.false)
