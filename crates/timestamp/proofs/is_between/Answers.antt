-- `timestamp::is_between` meets its contract.
use borrow.Author.Tests.{le-leb, lt-leb}
use Rattle.text.specs.Utf8.{between}
use Rattle.timestamp.proofs.is_between.Goals as goal

pub returns-then-low-x : goal.returns-then-low-x
unfolding between
returns-then-low-x c = rw (le-leb _ _ c.if-low-x.true)

pub returns-else-low-x : goal.returns-else-low-x
unfolding between
returns-else-low-x c = rw (lt-leb _ _ c.if-low-x.false)
