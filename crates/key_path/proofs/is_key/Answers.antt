-- `key_path::is_key` meets its contract.
use Rattle.single_check.proofs.SettingSteps.{and-le, and_lt}
use borrow.Author.Rules.{rules}
use Rattle.key_path.proofs.is_key.Goals as goal

pub returns-then-path-le-MAX_KEY_BYTES : goal.returns-then-path-le-MAX_KEY_BYTES
returns-then-path-le-MAX_KEY_BYTES c = search (and-le, rules)

pub returns-else-path-le-MAX_KEY_BYTES : goal.returns-else-path-le-MAX_KEY_BYTES
returns-else-path-le-MAX_KEY_BYTES c = and_lt _ c.if-path-le-MAX_KEY_BYTES.false
