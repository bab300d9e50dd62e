-- What is found in two fields, elements or holders, and where reading is then, whatever trees the definition reads from these places on.
use Rattle.std.specs.Prelude.{ℕ, Bool, true, List, ◌≡◌}
use Rattle.std.proofs.Math.Option.{Option, some}
use Rattle.definition.specs.Tree.{Text, Field, Items, Members}
use Rattle.definition.specs.Decode.{Ahead, element_of, members_of, field_in}
use Rattle.widening.specs.Decision.{Difference, field_differences, items_differences, members_differences}
use Rattle.sheet.specs.declared.schema_heads.HolderHead.{HolderHead}
use Rattle.schema_change.specs.declared.answer.Change.{Change}
use Rattle.schema_change.specs.declared.place.Place.{Place}
use Rattle.schema_change.specs.declared.place.FieldEntry.{FieldEntry}
use Rattle.schema_change.specs.declared.pairing.Members as Left
use Rattle.schema_change.specs.declared.field.Going.{Going}
use Rattle.schema_change.specs.Answers.{Goes, is_open_yet}
use Rattle.schema_change.specs.Places.{Within, Arrived, Reads}

abbrev pub going_at : Change → Left.Members → Left.Members → Going
going_at found xs ys = record { found = found; x = xs.place; y = ys.place }

-- as long as no breach was found, reading is there
pub record At (first : List ℕ) (a : Ahead) (second : List ℕ) (a' : Ahead) (r : Going) : Type 0 where
  pub first-at : is_open_yet r.found ≡ true → Arrived first r.x a
  pub second_at : is_open_yet r.found ≡ true → Arrived second r.y a'

-- from what was found before some differences to what is found with them, and to what lies ahead then
pub record Ends (first : List ℕ) (b : Ahead) (second : List ℕ) (b' : Ahead) (found : Change) (ds : List Difference) (r : Going) : Type 0 where
  pub goes : Goes found ds r.found
  pub at : At first b second b' r

-- The depth bounds how deep the fields nest.

pub record FieldsGo (first : List ℕ) (x : FieldEntry) (second : List ℕ) (y : FieldEntry) (depth : ℕ) (found : Change) (r : Going) : Type 0 where
  pub first-within : Within first r.x
  pub second-within : Within second r.y
  pub go : (f f' : Field) (b b' : Ahead) → Reads first x depth f b → Reads second y depth f' b' → Ends first b second b' found (field_differences f f') r

pub record ElementsGo (first : List ℕ) (x : Place) (second : List ℕ) (y : Place) (has : Bool) (depth : ℕ) (found : Change) (r : Going) : Type 0 where
  pub first-within : Within first r.x
  pub second-within : Within second r.y
  pub go : (a a' : Ahead) (items items' : Items) (b b' : Ahead) → Arrived first x a → Arrived second y a'
      → element_of has (field_in depth) a ≡ some (items, b)
      → element_of has (field_in depth) a' ≡ some (items', b')
      → Ends first b second b' found (items_differences items items') r

pub record MembersGo (first : List ℕ) (x : HolderHead) (second : List ℕ) (y : HolderHead) (depth : ℕ) (from r : Going) : Type 0 where
  pub first-within : Within first r.x
  pub second-within : Within second r.y
  pub go : (before before' : Option Text) (a a' : Ahead) (m m' : Members) (b b' : Ahead) → At first a second a' from
      → members_of x.count before (field_in depth) a ≡ some (m, b)
      → members_of y.count before' (field_in depth) a' ≡ some (m', b')
      → Ends first b second b' from.found (members_differences x.opened m m') r
