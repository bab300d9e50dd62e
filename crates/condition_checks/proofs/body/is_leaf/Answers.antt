-- `condition_checks::body::is_leaf` meets its contract.
use native.Mathlib.Omega.{arith}
use mathlib.Core.Logic.{inl}
use Rattle.condition_checks.proofs.BodySteps.{leaf-late}
use Rattle.condition_checks.proofs.body.is_leaf.Goals as goal

pub returns-then-op-le-LITERAL : goal.returns-then-op-le-LITERAL
returns-then-op-le-LITERAL c = (inl (omega (arith, c.if-op-le-LITERAL.true)), omega (arith, c.if-op-le-LITERAL.true))

pub returns-then-op-le-NOT : goal.returns-then-op-le-NOT
returns-then-op-le-NOT c = (omega (arith, c.if-op-le-LITERAL.false), inl (omega (arith, c.if-op-le-NOT.true)))

pub returns : goal.returns
returns c = leaf-late c.args.op (omega (arith, c.if-op-le-NOT.false))
