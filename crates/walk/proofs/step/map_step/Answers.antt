-- `walk::step::map_step` meets its contract.
use Rattle.walk.proofs.StepLaws.{map-count, map_other}
use borrow.Author.Rules.{rules}
use Rattle.walk.proofs.step.map_step.Goals as goal

pub returns-then-is_count : goal.returns-then-is_count
returns-then-is_count c = search (map-count, rules)

pub returns : goal.returns
returns c = search (map_other, rules)
