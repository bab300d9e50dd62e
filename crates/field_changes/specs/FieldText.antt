-- A field that is to come, as it is lent: its entry with all that is below it, and nothing after (document 02, T-14).
use Rattle.std.specs.Prelude.{ℕ, ◌-◌, ◌≤◌, List}
use Rattle.std.proofs.Math.Option.{Option}
use Rattle.sheet.specs.Within.{TextWithin}
use Rattle.definition.specs.Tree.{Text, Field}
use Rattle.definition.specs.Limits.{max_schema_entries, max_field_nesting}
use Rattle.definition.specs.Decode.{whole, field_in}
use Rattle.definition.specs.Within.{field_nesting, FieldRises, FieldFits}

-- the sheet's head is one of a schema's entries
unfoldable pub decode_field : List ℕ → Option (Text × Field)
decode_field = whole (max_schema_entries - 1) (field_in max_field_nesting)

-- it is within the limits by itself
pub record FieldWithin (name : Text) (f : Field) : Type 0 where
  pub named : TextWithin name
  pub fits : FieldFits f
  pub rises : FieldRises f
  pub nesting : field_nesting f ≤ max_field_nesting
