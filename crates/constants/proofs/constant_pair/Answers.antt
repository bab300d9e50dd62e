-- `constants::constant_pair` meets its contract: no mark where either operand is not a literal, else the truth of both.
use Rattle.constants.proofs.ConstantSteps.{pair_left, pair-right, pair-both}
use Rattle.constants.proofs.constant_pair.Goals as goal

pub returns-in_err-left : goal.returns-in_err-left
returns-in_err-left c = rw c.from_residual.ensures (pair_left c.args.op c.args.start c.literal_at.ensures c.in_err-left.was)

pub returns-in_err-right : goal.returns-in_err-right
returns-in_err-right c = rw c.from_residual-in_err-right.ensures (pair-right c.args.op c.args.start c.literal_at.ensures c.in_ok-left.was c.literal_at-2.ensures c.in_err-right.was)

pub returns : goal.returns
returns c = pair-both c.args.op c.args.start c.literal_at.ensures c.in_ok-left.was c.literal_at-2.ensures c.in_ok-right.was c.truth_of.ensures
