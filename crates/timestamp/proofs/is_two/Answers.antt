-- `timestamp::is_two` meets its contract.
use mathlib.Core.Path.{ap, ◌∙◌}
use Rattle.text.specs.Decimal.{is_digit}
use Rattle.timestamp.specs.Instant.{is_two}
use Rattle.text.proofs.Bools.{and-taken, and_left}
use Rattle.timestamp.proofs.is_two.Goals as goal

pub returns-then-is_digit : goal.returns-then-is_digit
unfolding is_two
returns-then-is_digit c =
    and-taken _ _
    (c.is_digit.ensures ∙ ap is_digit c.byte_at.ensures)
    c.if-is_digit.true (c.is_digit-then-is_digit.ensures ∙ ap is_digit c.byte_at-then-is_digit.ensures)

pub returns-else-is_digit : goal.returns-else-is_digit
unfolding is_two
returns-else-is_digit c = and_left _ _ (c.is_digit.ensures ∙ ap is_digit c.byte_at.ensures) c.if-is_digit.false
