-- `timestamp::is_timed` meets its contract.
use Rattle.timestamp.specs.Instant.{is_timed}
use Rattle.text.proofs.Bools.{and-taken, and_none}
use Rattle.timestamp.proofs.is_timed.Goals as goal

pub returns-then-is_clock : goal.returns-then-is_clock
unfolding is_timed
returns-then-is_clock c =
    and-taken _ _ c.is_time.ensures c.if-is_time.true
    (and-taken _ _ c.is_clock.ensures c.if-is_clock.true c.is_time_end.ensures)

pub returns-else-is_clock : goal.returns-else-is_clock
unfolding is_timed
returns-else-is_clock c =
    and-taken _ _ c.is_time.ensures c.if-is_time.true
    (and_none _ _ c.is_clock.ensures c.if-is_clock.false)

pub returns-else-is_time : goal.returns-else-is_time
unfolding is_timed
returns-else-is_time c = and_none _ _ c.is_time.ensures c.if-is_time.false
