-- `rule::kind::operator_at` meets its contract: a comma after the first digit, or a second digit.
use borrow.Author.Rules.{rules}
use Rattle.rule.proofs.KindSteps.{operator-one, operator-two}
use Rattle.rule.proofs.kind.operator_at.Goals as goal

pub returns-then-second-eq44 : goal.returns-then-second-eq44
returns-then-second-eq44 c = search (operator-one, rules)

pub returns : goal.returns
returns c = search (operator-two, rules)
