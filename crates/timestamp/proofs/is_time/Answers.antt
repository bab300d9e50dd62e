-- `timestamp::is_time` meets its contract.
use mathlib.Core.Path.{ap, ◌∙◌}
use Rattle.timestamp.specs.Instant.{is_separator, is_time}
use Rattle.text.proofs.Bools.{and-taken, and_none}
use Rattle.timestamp.proofs.is_time.Goals as goal

pub returns-then-is_marked_two : goal.returns-then-is_marked_two
unfolding is_time
returns-then-is_marked_two c =
    and-taken _ _ (c.is_separator.ensures ∙ ap is_separator
    c.byte_at.ensures)
    c.if-is_separator.true
    (and-taken _ _ c.is_two.ensures c.if-is_two.true
    (and-taken _ _ c.is_marked_two.ensures c.if-is_marked_two.true c.is_marked_two-then-is_marked_two.ensures))

pub returns-else-is_marked_two : goal.returns-else-is_marked_two
unfolding is_time
returns-else-is_marked_two c =
    and-taken _ _ (c.is_separator.ensures ∙ ap is_separator
    c.byte_at.ensures) c.if-is_separator.true
    (and-taken _ _ c.is_two.ensures c.if-is_two.true
    (and_none _ _ c.is_marked_two.ensures c.if-is_marked_two.false))

pub returns-else-is_two : goal.returns-else-is_two
unfolding is_time
returns-else-is_two c =
    and-taken _ _
    (c.is_separator.ensures ∙ ap is_separator c.byte_at.ensures)
    c.if-is_separator.true (and_none _ _ c.is_two.ensures c.if-is_two.false)

pub returns-else-is_separator : goal.returns-else-is_separator
unfolding is_time
returns-else-is_separator c =
    and_none _ _ (c.is_separator.ensures ∙ ap is_separator c.byte_at.ensures) c.if-is_separator.false
