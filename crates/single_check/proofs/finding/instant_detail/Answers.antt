use borrow.Author.Rules.{rules}
use Rattle.value_checks.specs.Verdicts.{instant_detail}
use Rattle.single_check.proofs.finding.instant_detail.Goals as goal

pub returns-in-Escaped : goal.returns-in-Escaped
unfolding instant_detail
returns-in-Escaped c = search rules

pub returns-in-Unreadable : goal.returns-in-Unreadable
unfolding instant_detail
returns-in-Unreadable c = search rules
