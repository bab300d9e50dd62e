use Rattle.text.specs.Ascii.{ascii}
use mathlib.Core.Path.{refl}
use Rattle.defect_message.proofs.ReferenceLaws.{nothing-told, unavailable-told, no-reference-told, empty-told, unknown-told, refusal-told}
use native.Mathlib.Omega.{arith}
use Rattle.defect_message.proofs.references.lay_telling.Goals as goal

pub returns-in-Nothing : goal.returns-in-Nothing
returns-in-Nothing c = nothing-told c.in-Nothing.is (omega arith) refl refl

pub returns-in-NotAvailable : goal.returns-in-NotAvailable
returns-in-NotAvailable c = unavailable-told c.in-NotAvailable.is c.lay_not_available.ensures

pub returns-in-NoReference : goal.returns-in-NoReference
returns-in-NoReference c = no-reference-told c.in-NoReference.is c.lay_no_reference.ensures

pub returns-in-EmptyPath : goal.returns-in-EmptyPath
unfolding ascii
returns-in-EmptyPath c = empty-told (omega arith) c.lay_unresolved-next.ensures c.in-EmptyPath.is c.lay.ensures

pub returns-in-UnknownRoot : goal.returns-in-UnknownRoot
returns-in-UnknownRoot c = unknown-told (omega arith) c.lay_unresolved-next-in-UnknownRoot.ensures c.in-UnknownRoot.is c.lay_unknown_root.ensures

pub returns-in-Refused : goal.returns-in-Refused
returns-in-Refused c = refusal-told (omega arith) c.lay_unresolved-next-in-Refused.ensures c.in-Refused.is c.lay_refusal.ensures
