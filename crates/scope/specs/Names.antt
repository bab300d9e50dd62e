-- The code's names beside those of the definitions.
use Rattle.std.specs.Prelude.{Bool, List, [], ◌∷◌, ◌≡◌, Option, Some, None}
use Rattle.std.proofs.Math.Option.{none, some}
use Rattle.definition.specs.Tree.{Text}
use Rattle.reference.specs.Setting as Setting
use Rattle.reference.specs.Table as Table
use Rattle.reference.specs.Setting.{named, name_of}
use Rattle.scope.specs.declared.name.Name.{Name}
use Rattle.scope.specs.declared.name.Name.TheVariants.{Id, Entity, Version, Fields, State, ToState, FromState, Args, OldFields}
use Rattle.scope.specs.declared.name.Row.{Row}

unfoldable pub name_is : Name → Setting.Name
name_is Id = Setting.id
name_is Entity = Setting.entity
name_is Version = Setting.version
name_is Fields = Setting.fields
name_is State = Setting.state
name_is ToState = Setting.to_state
name_is FromState = Setting.from_state
name_is Args = Setting.args
name_is OldFields = Setting.old_fields

-- the code's row of the name table, mark by mark
unfoldable pub row_by : Row → Table.Row
row_by r =
    record {
      id = r.id;
      entity = r.entity;
      version = r.version;
      fields = r.fields;
      state = r.state;
      to_state = r.target;
      from_state = r.source;
      args = r.args;
      old_fields = r.old;
    }

abbrev pub may_read_by : Row → Setting.Name → Bool
may_read_by r = Table.may_read_by (row_by r)

abbrev pub NamedIs : Text → Option Name → Type 0
NamedIs t (Some n) = name_of t ≡ some (name_is n)
NamedIs t None = name_of t ≡ none

-- the names that are tried after `fields`
abbrev pub other_names : List Setting.Name
other_names = Setting.id ∷ Setting.entity ∷ Setting.version ∷ Setting.state ∷ Setting.to_state ∷ Setting.from_state ∷ Setting.args ∷ Setting.old_fields ∷ []

abbrev pub OtherIs : Text → Option Name → Type 0
OtherIs t (Some n) = named other_names t ≡ some (name_is n)
OtherIs t None = named other_names t ≡ none
