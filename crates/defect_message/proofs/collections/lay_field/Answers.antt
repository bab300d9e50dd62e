use Rattle.text.specs.Ascii.{ascii}
use Rattle.walk.specs.DotLaws.{ends-length}
use mathlib.Core.Path.{refl}
use Rattle.defect_message.proofs.CollectionSteps.{field_past, property-laid, member-laid, string-laid, collection-laid, name-laid}
use native.Mathlib.Omega.{arith}
use borrow.Author.Rules.{rules}
use Rattle.defect_message.proofs.collections.lay_field.Goals as goal

pub returns-then-behind-at : goal.returns-then-behind-at
returns-then-behind-at c = field_past (omega arith)

pub slice_bounds-lay_memberless-end : goal.slice_bounds-lay_memberless-end
slice_bounds-lay_memberless-end c = search (ends-length, rules)

pub slice_bounds-lay_naming-end-in-UnknownProperty : goal.slice_bounds-lay_naming-end-in-UnknownProperty
slice_bounds-lay_naming-end-in-UnknownProperty c = search (ends-length, rules)

pub slice_bounds-lay_memberless-end-in-NoMember : goal.slice_bounds-lay_memberless-end-in-NoMember
slice_bounds-lay_memberless-end-in-NoMember c = search (ends-length, rules)

pub slice_bounds-lay_memberless-end-in-NotACollection : goal.slice_bounds-lay_memberless-end-in-NotACollection
slice_bounds-lay_memberless-end-in-NotACollection c = search (ends-length, rules)

pub slice_bounds-lay_memberless-end-in-NoName : goal.slice_bounds-lay_memberless-end-in-NoName
slice_bounds-lay_memberless-end-in-NoName c = search (ends-length, rules)

pub returns-in-NotAString : goal.returns-in-NotAString
returns-in-NotAString c = string-laid refl c.first_end-end.ensures c.indexed_field-kind.ensures c.lay_memberless.ensures c.in-NotAString.is

pub returns-in-UnknownProperty : goal.returns-in-UnknownProperty
unfolding ascii
returns-in-UnknownProperty c = property-laid refl c.first_end-end.ensures c.in-UnknownProperty.is c.lay_naming.ensures

pub returns-in-NoMember : goal.returns-in-NoMember
returns-in-NoMember c = member-laid refl c.first_end-end.ensures c.indexed_field-kind.ensures c.lay_memberless-in-NoMember.ensures c.in-NoMember.is

pub returns-in-NotACollection : goal.returns-in-NotACollection
returns-in-NotACollection c = collection-laid refl c.first_end-end.ensures c.indexed_field-kind.ensures c.lay_memberless-in-NotACollection.ensures c.in-NotACollection.is

pub returns-in-NoName : goal.returns-in-NoName
returns-in-NoName c = name-laid refl c.first_end-end.ensures c.indexed_field-kind.ensures c.lay_memberless-in-NoName.ensures c.in-NoName.is
