-- `value_checks::operand::validate_side` meets its contract: only a comparison asks.
use Rattle.value_checks.proofs.OperandSteps.{side-asked, side-unasked}
use Rattle.value_checks.proofs.operand.validate_side.Goals as goal

pub require-requires : goal.require-requires
require-requires c = c.requires.0

pub returns-then-op-eq-COMPARE : goal.returns-then-op-eq-COMPARE
returns-then-op-eq-COMPARE c = side-asked c.start_of.ensures c.type_at-holds.ensures c.if-op-eq-COMPARE.true c.require.ensures

pub returns : goal.returns
returns c = rw c.going.ensures (side-unasked c.args.op c.args.which c.if-op-eq-COMPARE.false)
