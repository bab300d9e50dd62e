use borrow.Author.Rules.{rules}
use Rattle.text.specs.Utf8.{between}
use Rattle.single_check.proofs.SettingSteps.{and-le, and_lt}
use Rattle.single_check.proofs.settings.is_within.Goals as goal

pub returns-then-n-ge1 : goal.returns-then-n-ge1
unfolding between
returns-then-n-ge1 c = search (and-le, rules)

pub returns-else-n-ge1 : goal.returns-else-n-ge1
unfolding between
returns-else-n-ge1 c = and_lt _ c.if-n-ge1.false
