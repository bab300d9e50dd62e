use native.Mathlib.Omega.{arith}
use mathlib.Core.Path.{refl}
use Rattle.value_checks.specs.Frames.{ReferencesIn}
use Rattle.value_checks.proofs.Going.{goes-passed}
use Rattle.value_checks.proofs.ReferenceSteps.{references-begin, references-next, references-stopped, references-all}
use Rattle.value_checks.proofs.references.validate_references.Goals as goal

pub loop-i-init : goal.loop-i-init
loop-i-init c = (omega arith, references-begin)

pub validate_value_reference-r-requires : goal.validate_value_reference-r-requires
validate_value_reference-r-requires c = (record { fits = omega (arith, c.loop-i.invariant.1.at_most, c.requires.0.fits) }, omega arith)

pub returns-in_default : goal.returns-in_default
returns-in_default c = references-stopped (omega arith) (omega arith) c.loop-i.invariant.1 c.validate_value_reference-r.ensures c.in_default.is

pub loop-i-preserved : goal.loop-i-preserved
loop-i-preserved c = (omega arith, references-next (omega arith) refl c.loop-i.invariant.1 (goes-passed (ReferencesIn _ _ _ _) c.in-Ok.is c.validate_value_reference-r.ensures))

pub returns : goal.returns
returns c = rw c.going.ensures (references-all (omega arith) (omega arith) c.loop-i.invariant.1)
