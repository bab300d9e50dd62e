use native.Mathlib.Omega.{arith}
use mathlib.Core.Path.{refl}
use Rattle.value_checks.specs.Literals.{LiteralsJudged}
use Rattle.value_checks.proofs.Going.{goes-passed}
use Rattle.value_checks.proofs.LiteralSteps.{literals-none, literals-next, literals-stopped, literals-all}
use Rattle.value_checks.proofs.literal.validate_literals.Goals as goal

pub loop-i-init : goal.loop-i-init
loop-i-init c = (omega arith, literals-none)

pub validate_literal-r-requires : goal.validate_literal-r-requires
validate_literal-r-requires c = (record { fits = omega (arith, c.loop-i.invariant.1.at_most, c.requires.0.fits) }, omega arith)

pub returns-in_default : goal.returns-in_default
returns-in_default c = literals-stopped (omega arith) (omega arith) c.loop-i.invariant.1 c.validate_literal-r.ensures c.in_default.is

pub loop-i-preserved : goal.loop-i-preserved
loop-i-preserved c = (omega arith, literals-next (omega arith) refl c.loop-i.invariant.1 (goes-passed (LiteralsJudged _ _ _ _ _) c.in-Ok.is c.validate_literal-r.ensures))

pub returns : goal.returns
returns c = rw c.going.ensures (literals-all (omega arith) (omega arith) c.loop-i.invariant.1)
