-- `walk::step::array_step` meets its contract.
use Rattle.walk.proofs.StepLaws.{array_count, array-item, array-other}
use borrow.Author.Rules.{rules}
use Rattle.walk.proofs.step.array_step.Goals as goal

pub returns-then-is_count : goal.returns-then-is_count
returns-then-is_count c = search (array_count, rules)

pub returns-then-is_ordinal : goal.returns-then-is_ordinal
returns-then-is_ordinal c = search (array-item, rules)

pub returns : goal.returns
returns c = search (array-other, rules)
