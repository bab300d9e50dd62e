-- `walk::step::is_content_key` meets its contract.
use Rattle.walk.proofs.StepLaws.{content-other, content-value}
use borrow.Author.Rules.{rules}
use Rattle.walk.proofs.step.is_content_key.Goals as goal

pub returns-then-is_tag : goal.returns-then-is_tag
returns-then-is_tag c = search (content-value, rules)

pub returns : goal.returns
returns c = search (content-other, rules)
