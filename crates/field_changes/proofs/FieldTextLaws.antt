-- A field that is lent well formed is within the limits, and what is lent is its writing.
use Rattle.std.specs.Prelude.{ℕ, ◌-◌, ◌≤◌, List, ◌≡◌, length}
use Rattle.std.proofs.Math.Option.{some}
use Rattle.definition.specs.Tree.{Text, Field}
use Rattle.definition.specs.Limits.{max_sheet_bytes, max_schema_entries, max_field_nesting}
use Rattle.definition.specs.Write.{write_field}
use Rattle.definition.specs.Within.{field_entries}
use Rattle.definition.proofs.FieldLaws.{field-law}
use Rattle.definition.proofs.SheetLaws.{whole-sound}
use Rattle.field_changes.specs.FieldText.{decode_field, FieldWithin}

pub field-within : (text : List ℕ) (name : Text) (f : Field) → decode_field text ≡ some (name, f) → (text ≡ write_field name f) × FieldWithin name f
unfolding decode_field
field-within text name f e =
    let r = whole-sound (max_schema_entries - 1) (field-law max_field_nesting) text (name, f) e in
    let g = r.3 in
    (r.0, record { named = g.name; fits = g.fits; rises = g.rises; nesting = g.nesting })

pub field-limits : (text : List ℕ) (name : Text) (f : Field) → decode_field text ≡ some (name, f) → (field_entries f ≤ max_schema_entries - 1) × (length text ≤ max_sheet_bytes)
unfolding decode_field
field-limits text name f e = let r = whole-sound (max_schema_entries - 1) (field-law max_field_nesting) text (name, f) e in (r.1, r.2)
