-- `timestamp::is_time_end` meets its contract.
use Rattle.timestamp.specs.Instant.{is_time_end}
use Rattle.timestamp.proofs.is_time_end.Goals as goal

pub returns-then-is_end : goal.returns-then-is_end
unfolding is_time_end
returns-then-is_end c = rw (← c.is_end.ensures, c.if-is_end.true)

pub returns-else-is_end : goal.returns-else-is_end
unfolding is_time_end
returns-else-is_end c = rw (← c.is_end.ensures, c.if-is_end.false) c.is_fraction.ensures
