-- `schema_change::pairing::pair_entries` meets its contract.
use borrow.Author.Rules.{rules}
use Rattle.schema_change.proofs.PlaceLaws.{pair-less, pair_same, pair-greater}
use Rattle.schema_change.proofs.pairing.pair_entries.Goals as goal

pub returns-in-Less : goal.returns-in-Less
returns-in-Less c = search (pair-less, rules)

pub returns-in-Equal : goal.returns-in-Equal
returns-in-Equal c = search (pair_same, rules)

pub returns-in-Greater : goal.returns-in-Greater
returns-in-Greater c = search (pair-greater, rules)
