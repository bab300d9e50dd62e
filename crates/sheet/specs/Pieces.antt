-- Pieces of entries, as the code reads them. The heads of Entries are made of these pieces, which the proofs show.
use Rattle.std.specs.Prelude.{ℕ, true, false, cond, List, leb, eqb}
use Rattle.std.proofs.Math.Option.{Option}
use Rattle.text.specs.Reader.{Reader, ◌>>=◌, ◌>>◌, pure}
use Rattle.text.specs.ByteReaders.{byte, comma, line_end}
use Rattle.text.specs.declared.part.Part.{Part}
use Rattle.sheet.specs.Entries.{max_text, max_count, dash, item, mark, text_length, text, optional_text, RuleHead, rule, ConditionHead, literal_head, many_head, negation_head, one_head, two_head, comparison_head, quantifier_head, ValueHead, constant_head, number_head, string_head, array_head, object_head}
use Rattle.sheet.specs.Operators.{Shape, literal, many, negation, one, two, comparison, quantifier}
use Rattle.sheet.specs.declared.schema_heads.FieldMarks.{FieldMarks}
use Rattle.sheet.specs.declared.rule_heads.Shape.{Shape as CodeShape}
use Rattle.sheet.specs.declared.rule_heads.Shape.TheVariants as shape
use Rattle.sheet.specs.declared.rule_heads.ConditionRow.{ConditionRow}
use Rattle.sheet.specs.declared.rule_heads.ConditionHead.{ConditionHead as CodeCondition}
use Rattle.sheet.specs.declared.rule_heads.ConditionHead.TheVariants as condition
use Rattle.sheet.specs.declared.rule_heads.ValueKind.{ValueKind}
use Rattle.sheet.specs.declared.rule_heads.ValueKind.TheVariants as kind
use Rattle.sheet.specs.declared.rule_heads.ValueRow.{ValueRow}
use Rattle.sheet.specs.declared.rule_heads.ValueHead.{ValueHead as CodeValue}
use Rattle.sheet.specs.declared.rule_heads.ValueHead.TheVariants as value

-- an entry's letter and its first field
unfoldable pub first : ℕ → ℕ → ℕ → Reader (List ℕ) ℕ
first letter low high = do
  byte letter
  item low high

-- a field that is `-`
unfoldable pub dashed : Reader (List ℕ) (Unit {0})
dashed = do
  comma
  dash

-- an entry's last field and its end
unfoldable pub last_text : ℕ → Reader (List ℕ) (List ℕ)
last_text n = do
  comma
  t ← text n
  line_end
  pure t

-- a field's entry up to its count, and after it
unfoldable pub field_marks : Reader (List ℕ) FieldMarks
field_marks = do
  kind ← first 70 1 12
  is_open ← mark
  has_items ← mark
  count ← item 0 max_count
  pure (record { kind = kind; opened = is_open; items = has_items; count = count })

unfoldable pub field_texts : Reader (List ℕ) (List ℕ × Option (List ℕ))
field_texts = do
  a ← item 0 max_text
  t ← text_length
  comma
  name ← text a
  tag ← optional_text t
  line_end
  pure (name, tag)

-- a rule's entry after its letter
unfoldable pub rule_texts : Reader (List ℕ) RuleHead
rule_texts = do
  a ← text_length
  b ← text_length
  comma
  name ← optional_text a
  message ← optional_text b
  line_end
  pure (rule name message)

-- What follows an operator: a row of the code's table.

unfoldable pub shape_for : CodeShape → Shape
shape_for shape.Literal = literal
shape_for shape.Many = many
shape_for shape.Negation = negation
shape_for shape.One = one
shape_for shape.Two = two
shape_for shape.Comparison = comparison
shape_for shape.Quantifier = quantifier

unfoldable pub condition_row : Shape → ConditionRow
condition_row literal = record { least = 0; most = 1; bound = false }
condition_row many = record { least = 0; most = max_count; bound = false }
condition_row negation = record { least = 0; most = 0; bound = false }
condition_row one = record { least = 0; most = 0; bound = false }
condition_row two = record { least = 0; most = 0; bound = false }
condition_row comparison = record { least = 1; most = 6; bound = false }
condition_row quantifier = record { least = 0; most = max_text; bound = true }

unfoldable pub condition_by : ℕ → ℕ → List ℕ → Shape → ConditionHead
condition_by op n bind literal = literal_head (eqb n 1)
condition_by op n bind many = many_head op n
condition_by op n bind negation = negation_head
condition_by op n bind one = one_head op
condition_by op n bind two = two_head op
condition_by op n bind comparison = comparison_head n
condition_by op n bind quantifier = quantifier_head op bind

unfoldable pub condition_from : ℕ → ℕ → Part → Shape → CodeCondition
condition_from op n bind literal = condition.Literal (eqb n 1)
condition_from op n bind many = condition.Many op n
condition_from op n bind negation = condition.Negation
condition_from op n bind one = condition.One op
condition_from op n bind two = condition.Two op
condition_from op n bind comparison = condition.Comparison n
condition_from op n bind quantifier = condition.Quantifier op bind

-- how many values follow a condition after which no conditions do, or 3
unfoldable pub values_after : Shape → ℕ
values_after literal = 0
values_after many = 3
values_after negation = 3
values_after one = 1
values_after two = 2
values_after comparison = 2
values_after quantifier = 3

-- What follows a value's type: likewise.

unfoldable pub kind_of : ℕ → ValueKind
kind_of type =
    cond (leb type 3) kind.Constant
    (cond (leb type 4) kind.Number
    (cond (leb type 5) kind.Text
    (cond (leb type 6) kind.Array kind.Object)))

unfoldable pub value_row : ValueKind → ValueRow
value_row kind.Constant = record { most = 0; texted = false; numeric = false }
value_row kind.Number = record { most = max_text; texted = true; numeric = true }
value_row kind.Text = record { most = max_text; texted = true; numeric = false }
value_row kind.Array = record { most = max_count; texted = false; numeric = false }
value_row kind.Object = record { most = max_count; texted = false; numeric = false }

unfoldable pub value_by : ValueKind → ℕ → ℕ → List ℕ → ValueHead
value_by kind.Constant type n t = constant_head type
value_by kind.Number type n t = number_head t
value_by kind.Text type n t = string_head t
value_by kind.Array type n t = array_head n
value_by kind.Object type n t = object_head n

unfoldable pub value_from : ValueKind → ℕ → ℕ → Part → CodeValue
value_from kind.Constant type n t = value.Constant type
value_from kind.Number type n t = value.Number t
value_from kind.Text type n t = value.Text t
value_from kind.Array type n t = value.Array n
value_from kind.Object type n t = value.Object n
