-- `timestamp::is_leap` meets its contract.
use borrow.Author.Tests.{eq-eqb, ne_eqb}
use Rattle.timestamp.specs.Instant.{is_leap}
use Rattle.timestamp.proofs.is_leap.Goals as goal

pub returns-then-year-eq0-2 : goal.returns-then-year-eq0-2
unfolding is_leap
returns-then-year-eq0-2 c = rw (eq-eqb _ _ c.if-year-eq0.true, eq-eqb _ _ c.if-year-eq0-2.true)

pub returns-else-year-eq0-2 : goal.returns-else-year-eq0-2
unfolding is_leap
returns-else-year-eq0-2 c = rw (eq-eqb _ _ c.if-year-eq0.true, ne_eqb _ _ c.if-year-eq0-2.false)

pub returns-else-year-eq0 : goal.returns-else-year-eq0
unfolding is_leap
returns-else-year-eq0 c = rw (ne_eqb _ _ c.if-year-eq0.false)
