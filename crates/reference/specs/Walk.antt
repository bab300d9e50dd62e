-- Walks through a schema, segment by segment, as `walk_field_path`, `field_at` and `element_of` go.
use Rattle.std.specs.Prelude.{ℕ, ◌≤◌, Bool, true, false, cond, ◌&&◌, ◌||◌, List, [], ◌∷◌, ◌⊎◌, ◌≡◌, eqb}
use Rattle.std.proofs.Math.Option.{Option, none, some}
use Rattle.text.specs.Ascii.{ascii}
use Rattle.text.specs.Order.{same_bytes}
use Rattle.definition.specs.Tree.{Text, Field, field, Items, absent, element, Members, no_members, member}
use Rattle.sheet.specs.FieldKinds.{string_kind, array_kind, object_kind, json_kind, map_kind, union_kind}
use Rattle.reference.specs.Setting.{Reader, kernel, projection}
use Rattle.reference.specs.Path.{is_ordinal, is_count}

-- what one segment leads to
pub data Step : Type 0 where
  -- nothing: the detail says why
  refuse : (detail : ℕ) → Step
  -- something without members: fine as the last segment, else refused with the detail
  leaf : (detail : ℕ) → Step
  -- anything that may follow is fine
  free : Step
  into : Field → Step

unfoldable pub lookup : Text → Members → Option Field
lookup name no_members = none
lookup name (member n f others) = let found = lookup name others in cond (same_bytes n name) (some f) found

-- the member of that name; a closed holder lacks any other
unfoldable pub member_step : Option Field → Bool → ℕ → Step
member_step (some f) is_open detail = into f
member_step none true detail = free
member_step none false detail = refuse detail

unfoldable pub item_step : Items → Step
item_step absent = free
item_step (element f) = into f

-- where a walk ends
pub data Reached : Type 0 where
  -- refused with a detail, at the field of that entry, with so many segments left; 1 is the record, 0 the arguments or no field at all
  refused : (detail at : ℕ) (left : List Text) → Reached
  -- something of which the schema says nothing
  unknown : Reached
  known : Field → Reached

-- a leaf is refused where more segments follow
unfoldable pub last_or : List Text → Reached → Reached
last_or [] r = unknown
last_or (s ∷ path) r = r

-- where a step leads, `s` and `path` being what was left before it, and `onward` the walk after it
unfoldable pub arrive : ℕ → Text → List Text → (Field → Reached) → Step → Reached
arrive at s path onward (refuse d) = refused d at (s ∷ path)
arrive at s path onward (leaf d) = last_or path (refused d at (s ∷ path))
arrive at s path onward free = unknown
arrive at s path onward (into g) = onward g

unfoldable pub entry_of : Field → ℕ
entry_of (field e kind is_open tag items ms) = e

unfoldable pub travel : (Field → Text → Step) → List Text → Field → Reached
travel step [] f = known f
travel step (s ∷ path) f = arrive (entry_of f) s path (λ g. travel step path g) (step f s)

unfoldable pub is_empty : Text → Bool
is_empty [] = true
is_empty (b ∷ t) = false

unfoldable pub array_step : Items → Text → Step
array_step items s = cond (is_count s) (leaf 6) (cond (is_ordinal s) (item_step items) (refuse 4))

unfoldable pub map_step : Text → Step
map_step s = cond (is_count s) (leaf 6) (refuse 5)

unfoldable pub is_tag : Option Text → Text → Bool
is_tag none s = false
is_tag (some t) s = same_bytes t s

-- `value`, and `content` where the tag is `value`
unfoldable pub content_key : Option Text → Text
content_key tag = cond (is_tag tag (ascii "value")) (ascii "content") (ascii "value")

unfoldable pub union_step : Option Text → Text → Step
union_step tag s = cond (is_tag tag s) (leaf 7) (cond (same_bytes (content_key tag) s) free (refuse 8))

-- the length of a text, which a projection's key cannot be
unfoldable pub text_count : Reader → Step
text_count kernel = leaf 6
text_count projection = refuse 13

-- the fields that a walk tells apart
pub data FieldForm : Type 0 where
  json_field : FieldForm
  object_field : FieldForm
  array_field : FieldForm
  map_field : FieldForm
  string_field : FieldForm
  union_field : FieldForm
  other_field : FieldForm

unfoldable pub form_of_kind : ℕ → FieldForm
form_of_kind kind =
    cond (eqb kind json_kind) json_field
    (cond (eqb kind object_kind) object_field
    (cond (eqb kind array_kind) array_field
    (cond (eqb kind map_kind) map_field
    (cond (eqb kind string_kind) string_field
    (cond (eqb kind union_kind) union_field other_field)))))

-- a segment that is not empty, by the field (docs/FORMAT.md, "References")
module _ (reader : Reader) (is_service is_open : Bool) (tag : Option Text) (items : Items) (members : Members) (s : Text) where
  unfoldable pub walk_into : FieldForm → Step
  walk_into json_field = free
  walk_into object_field = member_step (lookup s members) is_open 3
  walk_into array_field = cond is_service (array_step items s) (refuse 10)
  walk_into map_field = cond is_service (map_step s) (refuse 10)
  walk_into string_field = cond (is_service && is_count s) (text_count reader) (refuse 10)
  walk_into union_field = cond is_service (union_step tag s) (refuse 10)
  walk_into other_field = cond (is_service && is_count s) (refuse 9) (refuse 10)

-- `walk_field_path`; the details are those of number 18
unfoldable pub walk_step : Reader → (is_service : Bool) → Field → Text → Step
walk_step reader is_service (field e kind is_open tag items ms) s =
    cond (is_empty s) (refuse 1) (walk_into reader is_service is_open tag items ms s (form_of_kind kind))

-- `field_at`; the details are those of number 22
unfoldable pub field_step : Field → Text → Step
field_step (field e kind is_open tag items ms) s =
    cond (eqb kind json_kind || eqb kind union_kind) free
    (cond (eqb kind object_kind) (member_step (lookup s ms) is_open 2)
    (cond (eqb kind array_kind && is_ordinal s) (item_step items) (refuse 3)))

unfoldable pub element_or : Items → Reached
element_or absent = unknown
element_or (element f) = known f

-- `element_of`: arrays and maps have elements
unfoldable pub element_of_field : Field → Reached
element_of_field (field e kind is_open tag items ms) = cond (eqb kind array_kind || eqb kind map_kind) (element_or items) (refused 4 e [])

unfoldable pub element_of : Reached → Reached
element_of (refused d at left) = refused d at left
element_of unknown = unknown
element_of (known f) = element_of_field f

pub record Common (d : ℕ) : Type 0 where
  pub low : 1 ≤ d
  pub high : d ≤ 10

abbrev pub WalkDetail : Reader → ℕ → Type 0
WalkDetail kernel d = Common d
WalkDetail projection d = Common d ⊎ (d ≡ 13)
