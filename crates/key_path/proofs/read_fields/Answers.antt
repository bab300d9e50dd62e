-- `key_path::read_fields` meets its contract.
use Rattle.key_path.proofs.KeySteps.{fields_read}
use borrow.Author.Rules.{rules}
use Rattle.key_path.proofs.read_fields.Goals as goal

pub returns : goal.returns
returns c = search (fields_read, rules)
