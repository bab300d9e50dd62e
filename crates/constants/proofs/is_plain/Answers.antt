-- `constants::is_plain` meets its contract.
use native.Mathlib.Omega.{arith}
use Rattle.constants.proofs.PlainSteps.{plain-literal, plain-exists, plain-late}
use Rattle.constants.proofs.is_plain.Goals as goal

pub returns-then-op-le-LITERAL : goal.returns-then-op-le-LITERAL
returns-then-op-le-LITERAL c = plain-literal c.args.op (omega (arith, c.if-op-le-LITERAL.true))

pub returns-then-op-le-AFTER : goal.returns-then-op-le-AFTER
returns-then-op-le-AFTER c = plain-exists c.args.op

pub returns : goal.returns
returns c = plain-late c.args.op _ (omega (arith, c.if-op-le-AFTER.false)) (omega arith)
