-- Where a field is in a schema sheet, or belongs, by its name.
use Rattle.std.specs.Prelude.{ℕ, ◌≤◌, true, false, List, ◌++◌, ◌≡◌, length, drop, Result, Ok, Err}
use Rattle.std.proofs.Math.Option.{some}
use Rattle.sheet.specs.Entries.{max_count}
use Rattle.text.specs.Order.{precedes, same_bytes}
use Rattle.definition.specs.Tree.{Text, Field, Members, no_members, member, Schema}
use Rattle.definition.specs.Decode.{decode_schema}
use Rattle.definition.specs.Write.{count_of_members, write_members, write_arguments}
use Rattle.definition.specs.Within.{members_entries, MembersFit}
use Rattle.field_changes.specs.Change.{is_there}
use Rattle.field_changes.specs.FieldText.{decode_field}
use Rattle.field_changes.specs.Place.{joined, Starts}

-- from `start` on the sheet holds these members, and `rest` follows
pub record Holds (s : List ℕ) (start count : ℕ) (m : Members) (rest : List ℕ) : Type 0 where
  pub within : start ≤ length s
  pub bytes : drop start s ≡ write_members m ++ rest
  pub counted : count_of_members m ≡ count
  pub fits : MembersFit m
  pub few : members_entries m ≤ max_count

-- all of these come before the name
abbrev pub AllBefore : Text → Members → Type 0
AllBefore name no_members = Unit {0}
AllBefore name (member n g a) = ((precedes name n ≡ false) × (same_bytes n name ≡ false)) × AllBefore name a

-- the members in two parts, the second from `at` on
pub record PartedAt (s : List ℕ) (at : ℕ) (name : Text) (m : Members) (rest : List ℕ) (a b : Members) : Type 0 where
  pub parts : m ≡ joined a b
  pub before : AllBefore name a
  pub within : at ≤ length s
  pub bytes : drop at s ≡ write_members b ++ rest

-- no field has the name, and it belongs at `at`
pub record MissingAt (s : List ℕ) (at : ℕ) (name : Text) (m : Members) (rest : List ℕ) : Type 0 where
  pub a : Members
  pub b : Members
  pub parted : PartedAt s at name m rest a b
  pub starts : Starts name b

-- the field of that name is from `at` to `end`
pub record FoundAt (s : List ℕ) (at end : ℕ) (name : Text) (m : Members) (rest : List ℕ) : Type 0 where
  pub a : Members
  pub f : Field
  pub b : Members
  pub parted : PartedAt s at name m rest a (member name f b)
  pub ends_within : end ≤ length s
  pub behind : drop end s ≡ write_members b ++ rest

abbrev pub PlaceIs : (s : List ℕ) (start count : ℕ) → Text → Result (ℕ × ℕ) ℕ → Type 0
PlaceIs s start count name (Err at) = (m : Members) (rest : List ℕ) → Holds s start count m rest → MissingAt s at name m rest
PlaceIs s start count name (Ok (at, end)) = (m : Members) (rest : List ℕ) → Holds s start count m rest → FoundAt s at end name m rest

-- in the sheet of a schema: the record has no field of that name, and one belongs at `at`
pub record ComesAt (s : List ℕ) (at : ℕ) (name : Text) (t : Schema) : Type 0 where
  pub missing : is_there name t.fields.members ≡ false
  pub place : MissingAt s at name t.fields.members (write_arguments t.arguments)

-- the record's field of that name is from `at` to `end`
pub record GoesFrom (s : List ℕ) (at end : ℕ) (name : Text) (t : Schema) : Type 0 where
  pub there : is_there name t.fields.members ≡ true
  pub place : FoundAt s at end name t.fields.members (write_arguments t.arguments)

abbrev pub PlaceOf : List ℕ → Text → Result (ℕ × ℕ) ℕ → Type 0
PlaceOf s name (Err at) = (t : Schema) → decode_schema s ≡ some t → ComesAt s at name t
PlaceOf s name (Ok (at, end)) = (t : Schema) → decode_schema s ≡ some t → GoesFrom s at end name t

-- the name of a field that is lent well formed
abbrev pub NameOf : (text name : List ℕ) → Type 0
NameOf text name = (n : Text) (f : Field) → decode_field text ≡ some (n, f) → name ≡ n
