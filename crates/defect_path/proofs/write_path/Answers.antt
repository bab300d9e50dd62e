use Rattle.defect_path.proofs.RuleSteps.{label-then}
use Rattle.defect_path.proofs.write_path.Goals as goal

pub returns : goal.returns
returns c = label-then c.put-at.ensures c.put_rule.ensures
