-- `walk::step::text_count` meets its contract.
use Rattle.walk.proofs.StepLaws.{text-kernel, text-projection}
use borrow.Author.Rules.{rules}
use Rattle.walk.proofs.step.text_count.Goals as goal

pub returns-in-Kernel : goal.returns-in-Kernel
returns-in-Kernel c = search (text-kernel, rules)

pub returns-in-Projection : goal.returns-in-Projection
returns-in-Projection c = search (text-projection, rules)
