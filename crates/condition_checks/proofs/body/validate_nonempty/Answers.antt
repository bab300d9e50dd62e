-- `condition_checks::body::validate_nonempty` meets its contract.
use native.Mathlib.Omega.{arith}
use mathlib.Core.Logic.{inl, inr}
use Rattle.condition_checks.proofs.BodySteps.{nonempty-many, nonempty-other}
use Rattle.condition_checks.proofs.body.validate_nonempty.Goals as goal

pub returns-then-op-le-LITERAL : goal.returns-then-op-le-LITERAL
returns-then-op-le-LITERAL c = rw c.going.ensures (nonempty-other (inl (omega (arith, c.if-op-le-LITERAL.true))))

pub returns-then-op-lt-NOT : goal.returns-then-op-lt-NOT
returns-then-op-lt-NOT c = nonempty-many (omega (arith, c.if-op-le-LITERAL.false)) (omega (arith, c.if-op-lt-NOT.true)) c.require.ensures

pub returns : goal.returns
returns c = rw c.going-2.ensures (nonempty-other (inr (omega (arith, c.if-op-lt-NOT.false))))
