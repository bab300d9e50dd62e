-- `entity_rules::explain::write_explained` meets its contract: ten numbers, one after the other.
use borrow.Author.Rules.{rules}
use Rattle.entity_rules.specs.Entry.{fields_of}
use Rattle.entity_rules.specs.ExplainEntry.{explain_fields, fields_by}
use Rattle.entity_rules.proofs.ExplainEntries.{small-explained}
use Rattle.entity_rules.proofs.explain.write_explained.Goals as goal

pub returns : goal.returns
unfolding fields_by explain_fields fields_of
returns c = record { stands = c.write_numbers.ensures; small = search (small-explained, rules) }
