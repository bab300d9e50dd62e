-- `timestamp::is_day` meets its contract.
use mathlib.Core.Path.{ap, ◌∙◌}
use Rattle.timestamp.specs.Instant.{is_day}
use Rattle.text.specs.Utf8.{between}
use Rattle.text.proofs.Bools.{and-taken, and_left}
use Rattle.timestamp.proofs.is_day.Goals as goal

pub returns-then-is_between : goal.returns-then-is_between
unfolding is_day
returns-then-is_between c =
    and-taken _ _ c.is_between.ensures c.if-is_between.true (c.is_between-then-is_between.ensures ∙ ap
    (λ n. between 1 n c.args.day) c.days_in_month.ensures)

pub returns-else-is_between : goal.returns-else-is_between
unfolding is_day
returns-else-is_between c = and_left _ _ c.is_between.ensures c.if-is_between.false
