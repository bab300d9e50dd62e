-- Schemas in which no two siblings have one name.
use Rattle.std.specs.Prelude.{◌≡◌}
use Rattle.std.proofs.Math.Option.{Option, none, some}
use Rattle.definition.specs.Tree.{Field, field, Items, absent, element, Members, no_members, member, Holder, Schema}
use Rattle.reference.specs.Walk.{lookup}

abbrev mutual
  pub DistinctField : Field → Type 0
  DistinctField (field e kind o tag i m) = DistinctItems i × DistinctMembers m

  pub DistinctItems : Items → Type 0
  DistinctItems absent = Unit {0}
  DistinctItems (element f) = DistinctField f

  pub DistinctMembers : Members → Type 0
  DistinctMembers no_members = Unit {0}
  DistinctMembers (member name f m) = (lookup name m ≡ none) × DistinctField f × DistinctMembers m

abbrev pub DistinctArguments : Option Holder → Type 0
DistinctArguments none = Unit {0}
DistinctArguments (some h) = DistinctMembers h.members

pub record DistinctSchema (s : Schema) : Type 0 where
  pub fields : DistinctMembers s.fields.members
  pub arguments : DistinctArguments s.arguments
