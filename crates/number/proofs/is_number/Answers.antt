-- `number::is_number` meets its contract: a text is a number where it can be taken apart.
use Rattle.number.specs.Grammar.{is_number, is_some}
use Rattle.number.proofs.is_number.Goals as goal

pub returns-in_default : goal.returns-in_default
unfolding is_number is_some
returns-in_default c = rw (rw c.in_default.is at c.split.ensures)

pub returns : goal.returns
unfolding is_number is_some
returns c = rw (rw c.in-Some.is at c.split.ensures).0
