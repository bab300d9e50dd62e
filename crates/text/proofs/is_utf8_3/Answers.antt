-- `text::is_utf8_3` meets its contract.
use Rattle.text.specs.Utf8.{is_utf8-3}
use Rattle.text.proofs.Bools.{and-taken, and_left}
use Rattle.text.proofs.is_utf8_3.Goals as goal

pub is_second_of_3-requires : goal.is_second_of_3-requires
is_second_of_3-requires c = tt

pub is_tail-requires : goal.is_tail-requires
is_tail-requires c = tt

pub returns-then-is_second_of_3 : goal.returns-then-is_second_of_3
unfolding is_utf8-3
returns-then-is_second_of_3 c = and-taken _ _ c.is_second_of_3.ensures c.if-is_second_of_3.true c.is_tail.ensures

pub returns-else-is_second_of_3 : goal.returns-else-is_second_of_3
unfolding is_utf8-3
returns-else-is_second_of_3 c = and_left _ _ c.is_second_of_3.ensures c.if-is_second_of_3.false
