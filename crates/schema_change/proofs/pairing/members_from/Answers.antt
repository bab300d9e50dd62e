-- `schema_change::pairing::members_from` meets its contract.
use borrow.Author.Rules.{rules}
use Rattle.schema_change.proofs.PlaceLaws.{members-ended, members-entered}
use Rattle.schema_change.proofs.pairing.members_from.Goals as goal

pub returns-then-left-eq0 : goal.returns-then-left-eq0
returns-then-left-eq0 c = search (members-ended, rules)

pub returns : goal.returns
returns c = search (members-entered, rules)
