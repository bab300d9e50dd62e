-- Names that rise are distinct.
use Rattle.std.proofs.Math.Option.{Option, none, some}
use Rattle.std.specs.Prelude.{◌≡◌, refl}
use Rattle.definition.specs.Tree.{Text, Field, field, Items, absent, element, Members, no_members, member, Holder, Schema}
use Rattle.definition.specs.Within.{FieldRises, ItemsRise, MembersRise, ArgumentsRise, SchemaRises}
use Rattle.definition.proofs.RisingLaws.{NoneNamed, rising-once}
use Rattle.reference.specs.Walk.{lookup}
use Rattle.widening.specs.Distinct.{DistinctField, DistinctItems, DistinctMembers, DistinctArguments, DistinctSchema}

lookup-lacks-name : (name : Text) (m : Members) → NoneNamed name m → lookup name m ≡ none
unfolding lookup
lookup-lacks-name name no_members r = refl
lookup-lacks-name name (member n f m) r = rw r.0 (lookup-lacks-name name m r.1)

mutual
  field-distinct : (f : Field) → FieldRises f → DistinctField f
  field-distinct (field e kind o tag i m) r = (items-distinct i r.0, members-distinct none m r.1)

  items-distinct : (i : Items) → ItemsRise i → DistinctItems i
  items-distinct absent r = tt
  items-distinct (element f) r = field-distinct f r

  members-distinct : (before : Option Text) (m : Members) → MembersRise before m → DistinctMembers m
  members-distinct before no_members r = tt
  members-distinct before (member n f m) r = (lookup-lacks-name n m (rising-once before n f m r), field-distinct f r.1, members-distinct (some n) m r.2)

arguments-distinct : (o : Option Holder) → ArgumentsRise o → DistinctArguments o
arguments-distinct none r = tt
arguments-distinct (some h) r = members-distinct none h.members r

pub schema-distinct : (s : Schema) → SchemaRises s → DistinctSchema s
schema-distinct s r =
    record { fields = members-distinct none s.fields.members r.0; arguments = arguments-distinct s.arguments r.1 }
