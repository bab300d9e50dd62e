-- `entity_rules::result::write_numbers` meets its contract.
use Rattle.entity_rules.proofs.Writing.{numbers-short, numbers-written}
use Rattle.entity_rules.proofs.result.write_numbers.Goals as goal

pub returns-then-bytes-numbers : goal.returns-then-bytes-numbers
returns-then-bytes-numbers c = numbers-short _ _ c.if-bytes-numbers.true

pub returns : goal.returns
returns c = numbers-written _ c.if-bytes-numbers.false c.put_numbers.ensures
