-- `scope::references::validate_root` meets its contract.
use Rattle.scope.proofs.ReferenceLaws.{root-absent, root-no-path, root-read, root-unread}
use borrow.Author.Rules.{rules}
use Rattle.scope.proofs.references.validate_root.Goals as goal

pub returns-then-may_read : goal.returns-then-may_read
returns-then-may_read c = search (root-read, rules)

pub returns-in-Nothing : goal.returns-in-Nothing
returns-in-Nothing c = search (root-no-path, rules)

pub returns-in-Missing : goal.returns-in-Missing
returns-in-Missing c = search (root-absent, rules)

pub returns-else-may_read : goal.returns-else-may_read
returns-else-may_read c = search (root-unread, rules)
