use borrow.Author.Rules.{rules}
use Rattle.value_checks.specs.Verdicts.{side_detail}
use Rattle.single_check.proofs.finding.side_detail.Goals as goal

pub returns-in-Left : goal.returns-in-Left
unfolding side_detail
returns-in-Left c = search rules

pub returns-in-Right : goal.returns-in-Right
unfolding side_detail
returns-in-Right c = search rules
