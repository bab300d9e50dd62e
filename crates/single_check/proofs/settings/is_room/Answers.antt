use borrow.Author.Rules.{rules}
use Rattle.single_check.proofs.SettingSteps.{and-le, and_lt}
use Rattle.single_check.proofs.settings.is_room.Goals as goal

pub returns-then-path-ge-PATH_BYTES : goal.returns-then-path-ge-PATH_BYTES
returns-then-path-ge-PATH_BYTES c = search (and-le, rules)

pub returns-else-path-ge-PATH_BYTES : goal.returns-else-path-ge-PATH_BYTES
returns-else-path-ge-PATH_BYTES c = and_lt _ c.if-path-ge-PATH_BYTES.false
