use Rattle.text.specs.Ascii.{ascii}
use mathlib.Core.Path.{refl}
use Rattle.defect_message.proofs.CollectionSteps.{nothing_said, no-name-said, unavailable-said, undeclared-said, elements-said, refused-said}
use native.Mathlib.Omega.{arith}
use Rattle.defect_message.proofs.collections.lay_collecting.Goals as goal

pub returns-in-Nothing : goal.returns-in-Nothing
returns-in-Nothing c = nothing_said c.in-Nothing.is (omega arith) refl refl

pub returns-in-NoName : goal.returns-in-NoName
unfolding ascii
returns-in-NoName c = no-name-said c.in-NoName.is c.lay_named.ensures

pub returns-in-NotAvailable : goal.returns-in-NotAvailable
unfolding ascii
returns-in-NotAvailable c = unavailable-said c.in-NotAvailable.is c.lay_named-in-NotAvailable.ensures

pub returns-in-NotDeclared : goal.returns-in-NotDeclared
unfolding ascii
returns-in-NotDeclared c = undeclared-said c.in-NotDeclared.is c.lay_named-in-NotDeclared.ensures

pub returns-in-NoElements : goal.returns-in-NoElements
unfolding ascii
returns-in-NoElements c = elements-said c.in-NoElements.is c.indexed_field.ensures c.lay_between.ensures

pub returns-in-Refused : goal.returns-in-Refused
returns-in-Refused c = refused-said c.in-Refused.is c.lay_field.ensures
