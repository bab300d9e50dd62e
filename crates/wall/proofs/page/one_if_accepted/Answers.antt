-- `wall::page::one_if_accepted` meets its contract.
use Rattle.wall.proofs.PageSteps.{one-accepted, none-accepted}
use borrow.Author.Rules.{rules}
use Rattle.wall.proofs.page.one_if_accepted.Goals as goal

pub returns-then-number-eq0 : goal.returns-then-number-eq0
returns-then-number-eq0 c = search (one-accepted, rules)

pub returns-else-number-eq0 : goal.returns-else-number-eq0
returns-else-number-eq0 c = search (none-accepted, rules)
