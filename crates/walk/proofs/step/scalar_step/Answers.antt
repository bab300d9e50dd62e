-- `walk::step::scalar_step` meets its contract.
use Rattle.walk.proofs.StepLaws.{scalar-count, scalar-other, scalar-string}
use borrow.Author.Rules.{rules}
use Rattle.walk.proofs.step.scalar_step.Goals as goal

pub returns-then-kind-eq-STRING : goal.returns-then-kind-eq-STRING
returns-then-kind-eq-STRING c = search (scalar-string, rules)

pub returns-then-is_count : goal.returns-then-is_count
returns-then-is_count c = search (scalar-count, rules)

pub returns : goal.returns
returns c = search (scalar-other, rules)
