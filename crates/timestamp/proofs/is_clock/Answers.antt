-- `timestamp::is_clock` meets its contract.
use borrow.Author.Tests.{le-leb, lt-leb}
use Rattle.timestamp.specs.Instant.{is_clock}
use Rattle.timestamp.proofs.is_clock.Goals as goal

pub returns-then-minute-le59 : goal.returns-then-minute-le59
unfolding is_clock
returns-then-minute-le59 c = rw (le-leb _ _ c.if-hour-le23.true, le-leb _ _ c.if-minute-le59.true)

pub returns-else-minute-le59 : goal.returns-else-minute-le59
unfolding is_clock
returns-else-minute-le59 c = rw (le-leb _ _ c.if-hour-le23.true, lt-leb _ _ c.if-minute-le59.false)

pub returns-else-hour-le23 : goal.returns-else-hour-le23
unfolding is_clock
returns-else-hour-le23 c = rw (lt-leb _ _ c.if-hour-le23.false)
