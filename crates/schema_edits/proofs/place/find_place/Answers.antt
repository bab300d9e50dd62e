use native.Mathlib.Omega.{arith}
use mathlib.Core.Path.{refl}
use Rattle.schema_edits.proofs.PlaceSteps.{finding-start, finding-unread, finding-more, finding-found, finding-before, finding-end}
use Rattle.schema_edits.proofs.place.find_place.Goals as goal

pub loop-init : goal.loop-init
loop-init c = finding-start refl refl

pub returns-in_default : goal.returns-in_default
returns-in_default c = finding-unread c.loop.invariant c.known_field.ensures (omega arith) c.in_default.is

pub loop-preserved : goal.loop-preserved
loop-preserved c = finding-more c.loop.invariant c.known_field.ensures (omega arith) c.in-Some.is c.compare.result (rw c.bytes_of.ensures at c.compare.ensures) c.in-Less.is c.skip_field-at.ensures refl

pub returns-in-Equal : goal.returns-in-Equal
returns-in-Equal c = finding-found c.loop.invariant c.known_field.ensures (omega arith) c.in-Some.is c.compare.result (rw c.bytes_of.ensures at c.compare.ensures) c.in-Equal.is c.skip_field-end.ensures

pub returns-in-Greater : goal.returns-in-Greater
returns-in-Greater c = finding-before c.loop.invariant c.known_field.ensures (omega arith) c.in-Some.is c.compare.result (rw c.bytes_of.ensures at c.compare.ensures) c.in-Greater.is

pub returns : goal.returns
returns c = finding-end c.loop.invariant (omega arith)
