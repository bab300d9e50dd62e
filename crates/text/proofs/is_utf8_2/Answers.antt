-- `text::is_utf8_2` meets its contract.
use Rattle.text.specs.Utf8.{is_utf8-2}
use Rattle.text.proofs.Bools.{and-taken, and_left}
use Rattle.text.proofs.is_utf8_2.Goals as goal

pub is_between-requires : goal.is_between-requires
is_between-requires c = tt

pub is_tail-requires : goal.is_tail-requires
is_tail-requires c = tt

pub returns-then-is_between : goal.returns-then-is_between
unfolding is_utf8-2
returns-then-is_between c = and-taken _ _ c.is_between.ensures c.if-is_between.true c.is_tail.ensures

pub returns-else-is_between : goal.returns-else-is_between
unfolding is_utf8-2
returns-else-is_between c = and_left _ _ c.is_between.ensures c.if-is_between.false
