-- `entity_rules::rulecheck_rule` meets its contract.
use Rattle.single_check.specs.Sheets.{takes_of}
use Rattle.entity_rules.proofs.rulecheck_rule.Goals as goal

pub returns : goal.returns
unfolding takes_of
returns c = c.check.ensures
