-- `walk::step::member_step` meets its contract.
use Rattle.walk.proofs.StepLaws.{member-closed, member-into, member-open}
use borrow.Author.Rules.{rules}
use Rattle.walk.proofs.step.member_step.Goals as goal

pub returns-then-holder : goal.returns-then-holder
returns-then-holder c = search (member-open, rules)

pub returns-in_default : goal.returns-in_default
returns-in_default c = search (member-closed, rules)

pub returns : goal.returns
returns c = search (member-into, rules)
