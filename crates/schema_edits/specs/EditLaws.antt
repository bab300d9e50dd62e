-- What a buffer holds once a field has come or gone: the new sheet, which is well formed.
use Rattle.std.specs.Prelude.{ℕ, ◌≤◌, false, List, ◌≡◌, length, take}
use Rattle.std.proofs.Common.{arith, ap, ◌∙◌}
use Rattle.std.proofs.Math.Option.{some}
use Rattle.definition.specs.Tree.{Text, Field, Schema}
use Rattle.definition.specs.Limits.{max_sheet_bytes}
use Rattle.definition.specs.Decode.{decode_schema}
use Rattle.definition.specs.Write.{write_schema}
use Rattle.definition.proofs.RoundTrip.{schema-round-trip}
use Rattle.buffer.specs.WroteLaws.{sets-front}
use Rattle.field_changes.specs.Change.{is_there, added, removed, is_too_large}
use Rattle.field_changes.proofs.ChangeLaws.{added-decodes, removed-decodes}
use Rattle.field_changes.specs.FieldText.{decode_field}
use Rattle.field_changes.proofs.FieldTextLaws.{field-within}
use Rattle.field_changes.proofs.SmallerLaws.{removed-small}
use Rattle.field_changes.proofs.ThereLaws.{none_named}
use Rattle.schema_edits.specs.Edit.{Puts}

module _ {before after : List ℕ} {t : Schema} {next : ℕ} (p : Puts before after t next) (fits : length (write_schema t) ≤ length before) where
  pub puts-sheet : take next after ≡ write_schema t
  puts-sheet =
      ap (λ (n : ℕ). take n after) p.ends
      ∙ ap (λ (l : List ℕ). take (length (write_schema t)) l) p.stands
      ∙ sets-front (write_schema t) before fits

  pub puts-decodes : decode_schema (write_schema t) ≡ some t → decode_schema (take next after) ≡ some t
  puts-decodes e = ap decode_schema puts-sheet ∙ e

-- a schema whose sheet is well formed has room where a sheet has
pub sheet-fits : (t : Schema) {n : ℕ} → decode_schema (write_schema t) ≡ some t → max_sheet_bytes ≤ n → length (write_schema t) ≤ n
sheet-fits t e room = let bytes = ((schema-round-trip (write_schema t) t).0 e).1.bytes in omega arith

module _ (s : List ℕ) (t : Schema) (e : decode_schema s ≡ some t) where
  pub added-good : (field : List ℕ) (name : Text) (f : Field)
      → decode_field field ≡ some (name, f)
      → is_there name t.fields.members ≡ false
      → is_too_large (added name f t) ≡ false
      → decode_schema (write_schema (added name f t)) ≡ some (added name f t)
  added-good field name f g new small =
      added-decodes name f t ((schema-round-trip s t).0 e).1 (field-within field name f g).1 (none_named name t.fields.members new) small

  pub removed-good : (name : Text) → decode_schema (write_schema (removed name t)) ≡ some (removed name t)
  removed-good name = let w = ((schema-round-trip s t).0 e).1 in removed-decodes name t w (removed-small name t w)
