-- `timestamp::is_instant` meets its contract.
use borrow.Author.Tests.{eq-eqb, ne_eqb}
use Rattle.timestamp.specs.Instant.{is_instant}
use Rattle.text.proofs.Bools.{and-taken, and_none}
use Rattle.timestamp.proofs.is_instant.Goals as goal

pub returns-then-s-eq10 : goal.returns-then-s-eq10
unfolding is_instant
returns-then-s-eq10 c =
    and-taken _ _ c.is_date.ensures c.if-is_date.true
    (and-taken _ _ c.is_day.ensures c.if-is_day.true (rw (eq-eqb _ _ c.if-s-eq10.true)))

pub returns-then-is_day : goal.returns-then-is_day
unfolding is_instant
returns-then-is_day c =
    and-taken _ _ c.is_date.ensures c.if-is_date.true
    (and-taken _ _ c.is_day.ensures c.if-is_day.true
    (rw (ne_eqb _ _ c.if-s-eq10.false) c.is_timed.ensures))

pub returns-else-is_day : goal.returns-else-is_day
unfolding is_instant
returns-else-is_day c =
    and-taken _ _ c.is_date.ensures c.if-is_date.true
    (and_none _ _ c.is_day.ensures c.if-is_day.false)

pub returns-else-is_date : goal.returns-else-is_date
unfolding is_instant
returns-else-is_date c = and_none _ _ c.is_date.ensures c.if-is_date.false
