-- The kinds of fields in one table (docs/FORMAT.md, "The schema sheet"), and the words that walks use for them.
use Rattle.std.specs.Prelude.{ℕ, cond, List, [], ◌∷◌, eqb}
use Prim.Native.String.{String}
use Rattle.text.specs.Ascii.{ascii}

pub record FieldKind : Type 0 where
  pub number : ℕ
  pub name : List ℕ

unfoldable pub kind : ℕ → String → FieldKind
unfolding ascii
kind number name = record { number = number; name = ascii name }

-- those that a walk tells apart

abbrev pub string_kind : ℕ
string_kind = 1

abbrev pub array_kind : ℕ
array_kind = 6

abbrev pub object_kind : ℕ
object_kind = 7

abbrev pub json_kind : ℕ
json_kind = 8

abbrev pub map_kind : ℕ
map_kind = 10

abbrev pub union_kind : ℕ
union_kind = 11

-- numbers go from 1 to this one
abbrev pub kind_count : ℕ
kind_count = 12

unfoldable pub field_kinds : List FieldKind
unfolding kind
field_kinds =
    kind string_kind "string"
    ∷ kind 2 "integer"
    ∷ kind 3 "number"
    ∷ kind 4 "boolean"
    ∷ kind 5 "enum"
    ∷ kind array_kind "array"
    ∷ kind object_kind "object"
    ∷ kind json_kind "json"
    ∷ kind 9 "ref"
    ∷ kind map_kind "map"
    ∷ kind union_kind "union"
    ∷ kind kind_count "binary64"
    ∷ []

-- the last kind's where no kind has that number
unfoldable pub name_in : (last : List ℕ) → List FieldKind → ℕ → List ℕ
name_in last [] n = last
name_in last (k ∷ kinds) n = let later = name_in k.name kinds n in cond (eqb n k.number) k.name later

-- `FieldKind::as_str`
unfoldable pub kind_name : ℕ → List ℕ
unfolding field_kinds name_in
kind_name n = name_in [] field_kinds n
