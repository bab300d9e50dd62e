-- `key_path::reader_of` meets its contract.
use Rattle.key_path.proofs.KeySteps.{reader-kernel, reader-projection}
use borrow.Author.Rules.{rules}
use Rattle.key_path.proofs.reader_of.Goals as goal

pub returns-then-reader-eq1 : goal.returns-then-reader-eq1
returns-then-reader-eq1 c = search (reader-kernel, rules)

pub returns : goal.returns
returns c = search (reader-projection, rules)
