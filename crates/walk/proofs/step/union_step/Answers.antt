-- `walk::step::union_step` meets its contract.
use Rattle.walk.proofs.StepLaws.{union-content, union-other, union-tag}
use borrow.Author.Rules.{rules}
use Rattle.walk.proofs.step.union_step.Goals as goal

pub returns-then-is_tag : goal.returns-then-is_tag
returns-then-is_tag c = search (union-tag, rules)

pub returns-then-is_content_key : goal.returns-then-is_content_key
returns-then-is_content_key c = search (union-content, rules)

pub returns : goal.returns
returns c = search (union-other, rules)
