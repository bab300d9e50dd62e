use borrow.Author.Rules.{rules}
use Rattle.text.proofs.Bools.{and-taken, and_left}
use Rattle.single_check.proofs.settings.are_settings.Goals as goal

pub returns-then-is_within : goal.returns-then-is_within
returns-then-is_within c = search (and-taken, rules)

pub returns-else-is_within : goal.returns-else-is_within
returns-else-is_within c = search (and_left, rules)
