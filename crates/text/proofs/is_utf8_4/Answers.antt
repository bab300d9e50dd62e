-- `text::is_utf8_4` meets its contract.
use Rattle.text.specs.Utf8.{is_utf8-4}
use Rattle.text.proofs.Bools.{and-taken, and_left, and_none}
use Rattle.text.proofs.is_utf8_4.Goals as goal

pub returns-then-is_tail : goal.returns-then-is_tail
unfolding is_utf8-4
returns-then-is_tail c =
    and-taken _ _ c.is_second_of_4.ensures c.if-is_second_of_4.true
    (and-taken _ _ c.is_tail.ensures c.if-is_tail.true c.is_tail-then-is_tail.ensures)

pub returns-else-is_tail : goal.returns-else-is_tail
unfolding is_utf8-4
returns-else-is_tail c =
    and-taken _ _ c.is_second_of_4.ensures c.if-is_second_of_4.true
    (and_left _ _ c.is_tail.ensures c.if-is_tail.false)

pub returns-else-is_second_of_4 : goal.returns-else-is_second_of_4
unfolding is_utf8-4
returns-else-is_second_of_4 c =
    and_none _ _ c.is_second_of_4.ensures c.if-is_second_of_4.false
