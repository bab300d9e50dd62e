-- `rule_book::tally::result` meets its contract: the counts at the numbers that a tally has.
use mathlib.Core.Path.{refl}
use Rattle.rule_book.specs.Tallying.{numbers_in}
use Rattle.rule_book.proofs.tally.result.Goals as goal

pub returns : goal.returns
unfolding numbers_in
returns c = refl
