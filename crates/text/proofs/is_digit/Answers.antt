-- `text::is_digit` meets its contract.
use Rattle.text.specs.Decimal.{is_digit}
use Rattle.text.proofs.is_digit.Goals as goal

pub is_between-requires : goal.is_between-requires
is_between-requires c = tt

pub returns : goal.returns
unfolding is_digit
returns c = c.is_between.ensures
