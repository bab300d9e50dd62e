-- `schema_change::pairing::pair` meets its contract.
use borrow.Author.Rules.{rules}
use Rattle.schema_change.proofs.PlaceLaws.{pair-both, pair-missing, pair-added, pair-neither}
use Rattle.schema_change.proofs.pairing.pair.Goals as goal

pub returns-in-Some-y : goal.returns-in-Some-y
returns-in-Some-y c = search (pair-both, rules)

pub returns-in-None-y : goal.returns-in-None-y
returns-in-None-y c = search (pair-missing, rules)

pub returns-in-Some-y-2 : goal.returns-in-Some-y-2
returns-in-Some-y-2 c = search (pair-added, rules)

pub returns-in-None-y-2 : goal.returns-in-None-y-2
returns-in-None-y-2 c = search (pair-neither, rules)
