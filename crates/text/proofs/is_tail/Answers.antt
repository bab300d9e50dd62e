-- `text::is_tail` meets its contract.
use Rattle.text.specs.Utf8.{is_tail}
use Rattle.text.proofs.is_tail.Goals as goal

pub is_between-requires : goal.is_between-requires
is_between-requires c = tt

pub returns : goal.returns
unfolding is_tail
returns c = c.is_between.ensures
