-- `key_path::unreadable` meets its contract.
use Rattle.key_path.proofs.KeySteps.{unreadable-is}
use borrow.Author.Rules.{rules}
use Rattle.key_path.proofs.unreadable.Goals as goal

pub returns : goal.returns
returns c = search (unreadable-is, rules)
