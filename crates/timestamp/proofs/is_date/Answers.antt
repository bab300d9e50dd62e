-- `timestamp::is_date` meets its contract.
use Rattle.timestamp.specs.Instant.{is_date}
use Rattle.text.proofs.Bools.{and-taken, and_none}
use Rattle.timestamp.proofs.is_date.Goals as goal

pub returns-then-is_marked_two : goal.returns-then-is_marked_two
unfolding is_date
returns-then-is_marked_two c =
    and-taken _ _ c.is_two.ensures
    c.if-is_two.true
    (and-taken _ _ c.is_two-then-is_two.ensures c.if-is_two-2.true
    (and-taken _ _ c.is_marked_two.ensures c.if-is_marked_two.true c.is_marked_two-then-is_marked_two.ensures))

pub returns-else-is_marked_two : goal.returns-else-is_marked_two
unfolding is_date
returns-else-is_marked_two c =
    and-taken _ _ c.is_two.ensures c.if-is_two.true
    (and-taken _ _ c.is_two-then-is_two.ensures c.if-is_two-2.true
    (and_none _ _ c.is_marked_two.ensures c.if-is_marked_two.false))

pub returns-else-is_two-2 : goal.returns-else-is_two-2
unfolding is_date
returns-else-is_two-2 c =
    and-taken _ _ c.is_two.ensures c.if-is_two.true
    (and_none _ _ c.is_two-then-is_two.ensures c.if-is_two-2.false)

pub returns-else-is_two : goal.returns-else-is_two
unfolding is_date
returns-else-is_two c = and_none _ _ c.is_two.ensures c.if-is_two.false
