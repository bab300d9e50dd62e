-- Whether a schema sheet would be too large with one field more.
use Rattle.std.specs.Prelude.{ℕ, Bool, List, ◌≡◌}
use Rattle.std.proofs.Math.Option.{some}
use Rattle.definition.specs.Tree.{Text, Field, Schema}
use Rattle.definition.specs.Decode.{decode_schema}
use Rattle.field_changes.specs.Change.{added, is_too_large}
use Rattle.field_changes.specs.FieldText.{decode_field}

-- of a schema sheet and a field that are well formed
abbrev pub SizeIs : (s field : List ℕ) → Bool → Type 0
SizeIs s field r =
    (t : Schema) → decode_schema s ≡ some t → (name : Text) (f : Field) → decode_field field ≡ some (name, f) → r ≡ is_too_large (added name f t)
