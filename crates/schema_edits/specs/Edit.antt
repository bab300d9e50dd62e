-- A schema sheet with one field more, or one less, at a buffer's start.
use Rattle.std.specs.Prelude.{ℕ, ◌-◌, ◌≤◌, List, ◌++◌, ◌≡◌, length, take, drop}
use Rattle.std.proofs.Math.Option.{some}
use Rattle.std.proofs.lemmas.List.Edits.{sets}
use Rattle.text.specs.Numeral.{decimal_of}
use Rattle.definition.specs.Tree.{Text, Field, Schema}
use Rattle.definition.specs.Decode.{decode_schema}
use Rattle.definition.specs.Write.{write_schema}
use Rattle.field_changes.specs.Change.{added, removed}
use Rattle.field_changes.specs.FieldText.{decode_field}
use Rattle.schema_edits.specs.Place.{ComesAt, GoesFrom}

-- the sheet with that count in its head, whose digits ended at `behind`, and with the field for the bytes from `at` up to `end`
unfoldable pub edited : (s : List ℕ) (count behind at : ℕ) (field : List ℕ) (end : ℕ) → List ℕ
edited s count behind at field end =
    take 4 s ++ (decimal_of count ++ (take (at - behind) (drop behind s) ++ (field ++ take (length s - end) (drop end s))))

-- the sheet of the schema is at the start, up to `next`, and what follows it is as it was
pub record Puts (before after : List ℕ) (t : Schema) (next : ℕ) : Type 0 where
  pub stands : after ≡ sets before 0 (write_schema t)
  pub ends : next ≡ length (write_schema t)

-- where both are well formed and there is room
pub record Adds (before after s : List ℕ) (at : ℕ) (field : List ℕ) (next : ℕ) : Type 0 where
  pub len : length after ≡ length before
  pub puts : (t : Schema) → decode_schema s ≡ some t → (name : Text) (f : Field) → decode_field field ≡ some (name, f) → ComesAt s at name t
      → length (write_schema (added name f t)) ≤ length before
      → Puts before after (added name f t) next

pub record Removes (before after s : List ℕ) (at end next : ℕ) : Type 0 where
  pub len : length after ≡ length before
  pub puts : (t : Schema) → decode_schema s ≡ some t → (name : Text) → GoesFrom s at end name t
      → length (write_schema (removed name t)) ≤ length before
      → Puts before after (removed name t) next
