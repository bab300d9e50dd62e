-- `entity_rules::change::in_places` meets its contract.
use borrow.Author.Rules.{rules}
use Rattle.entity_rules.specs.WidensEntry.{in_places}
use Rattle.entity_rules.proofs.change.in_places.Goals as goal

pub returns : goal.returns
unfolding in_places
returns c = search rules
