use Rattle.defect_walk.proofs.TellingLaws.{named-no-path, named-absent, named-read, named-unread}
use borrow.Author.Rules.{rules}
use Rattle.defect_walk.proofs.telling.named_telling.Goals as goal

pub returns-then-may_read : goal.returns-then-may_read
returns-then-may_read c = search (named-read, rules)

pub returns-in-Nothing : goal.returns-in-Nothing
returns-in-Nothing c = search (named-no-path, rules)

pub returns-in-Missing : goal.returns-in-Missing
returns-in-Missing c = search (named-absent, rules)

pub returns-else-may_read : goal.returns-else-may_read
returns-else-may_read c = search (named-unread, rules)
