-- `timestamp::days_in_month` meets its contract.
use Rattle.timestamp.proofs.Laws.{days-february, days-thirty, days-others}
use Rattle.timestamp.proofs.days_in_month.Goals as goal

pub returns-then-is_leap : goal.returns-then-is_leap
returns-then-is_leap c = rw (days-february _ _ c.in-2.is, ← c.is_leap.ensures, c.if-is_leap.true)

pub returns-else-is_leap : goal.returns-else-is_leap
returns-else-is_leap c = rw (days-february _ _ c.in-2.is, ← c.is_leap.ensures, c.if-is_leap.false)

pub returns-in-4 : goal.returns-in-4
returns-in-4 c = days-thirty _ _ c.in-4.is

pub returns-in_default : goal.returns-in_default
returns-in_default c = days-others _ _ c.in_default.in_default-own.rest.0.1 c.in_default.in_default-own.rest.1
