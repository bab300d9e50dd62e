-- `constants::constant_at` meets its contract, by the operator.
use Rattle.constants.proofs.ConstantSteps.{constant-not, constant_by}
use Rattle.constants.proofs.constant_at.Goals as goal

pub returns-then-is_instant_test : goal.returns-then-is_instant_test
returns-then-is_instant_test c = constant_by c.args.op c.is_instant_test.ensures c.if-is_instant_test.true c.constant_pair.ensures

pub returns : goal.returns
returns c = constant-not c.args.op c.is_instant_test.ensures c.if-is_instant_test.false
