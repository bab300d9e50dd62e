-- `entity_rules::rulecheck_widens` meets its contract: the answer of `widens`, in a result that has room for it.
use borrow.Author.Rules.{rules}
use Rattle.entity_rules.proofs.WidensEntries.{short-answered, widens-answered}
use Rattle.entity_rules.proofs.rulecheck_widens.Goals as goal

pub returns-then-res-lt-RESULT_BYTES : goal.returns-then-res-lt-RESULT_BYTES
returns-then-res-lt-RESULT_BYTES c = search (short-answered, rules)

pub returns : goal.returns
returns c = search (widens-answered, rules)
