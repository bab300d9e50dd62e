-- What the code's readers answer, by cases: what the definition of Entries reads from place `at` of the bytes on, and the place after it.
use Rattle.std.specs.Prelude.{ℕ, ◌+◌, ◌/◌, ◌%◌, ◌<◌, ◌≤◌, Bool, true, false, List, ◌≡◌, length, take, drop, Option as Optional, Some, None}
use Rattle.std.proofs.Math.Option.{Option, none, some}
use Rattle.text.specs.ByteReaders.{comma}
use Rattle.text.specs.ReadAt.{ReadsTo, Refuses}
use Rattle.text.specs.Parts.{part_of, optional_of}
use Rattle.text.specs.declared.part.Part.{Part}
use Rattle.sheet.specs.Entries as entries
use Rattle.sheet.specs.Pieces.{first, dashed, last_text, field_marks, field_texts, rule_texts}
use Rattle.sheet.specs.declared.schema_heads.HolderHead.{HolderHead}
use Rattle.sheet.specs.declared.schema_heads.SchemaHead.{SchemaHead}
use Rattle.sheet.specs.declared.schema_heads.FieldHead.{FieldHead}
use Rattle.sheet.specs.declared.rule_heads.RuleHead.{RuleHead}
use Rattle.sheet.specs.declared.rule_heads.RuleHead.TheVariants as rule-head
use Rattle.sheet.specs.declared.rule_heads.ConditionHead.{ConditionHead}
use Rattle.sheet.specs.declared.rule_heads.ConditionHead.TheVariants as condition-head
use Rattle.sheet.specs.declared.rule_heads.ValueHead.{ValueHead}
use Rattle.sheet.specs.declared.rule_heads.ValueHead.TheVariants as value-head
use Rattle.sheet.specs.declared.schema_heads.FieldMarks.{FieldMarks}
use Rattle.sheet.specs.declared.schema_heads.FieldTexts.{FieldTexts}

-- What entries are made of.

abbrev pub MarkIs : List ℕ → ℕ → Optional (Bool × ℕ) → Type 0
MarkIs s at (Some (b, next)) = ReadsTo entries.mark s at b next
MarkIs s at None = Refuses entries.mark s at

abbrev pub IsDashed : List ℕ → ℕ → Bool → Type 0
IsDashed s at true = ReadsTo dashed s at tt (at + 2)
IsDashed s at false = Refuses dashed s at

-- `len` bytes of UTF-8
abbrev pub TextIs : ℕ → List ℕ → ℕ → Bool → Type 0
TextIs len s at true = (entries.text len (drop at s) ≡ some (take len (drop at s), drop (at + len) s)) × (at + len ≤ length s)
TextIs len s at false = Refuses (entries.text len) s at

abbrev pub LastTextIs : ℕ → List ℕ → ℕ → Bool → Type 0
LastTextIs len s at true = ReadsTo (last_text len) s at (take len (drop (at + 1) s)) (at + 1 + len + 1)
LastTextIs len s at false = Refuses (last_text len) s at

unfoldable pub length_of : Optional ℕ → Option ℕ
length_of (Some n) = some n
length_of None = none

abbrev pub LengthIs : List ℕ → ℕ → Optional (Optional ℕ × ℕ) → Type 0
LengthIs s at (Some (l, next)) = ReadsTo entries.text_length s at (length_of l) next
LengthIs s at None = Refuses entries.text_length s at

abbrev pub OptionalIs : Optional ℕ → List ℕ → ℕ → Optional (Optional Part × ℕ) → Type 0
OptionalIs l s at (Some (t, next)) =
    (entries.optional_text (length_of l) (drop at s) ≡ some (optional_of s t, drop next s)) × (at ≤ next) × (next ≤ length s)
OptionalIs l s at None = Refuses (entries.optional_text (length_of l)) s at

-- The entries of a schema sheet.

unfoldable pub holder_of : HolderHead → entries.HolderHead
holder_of h = record { is_open = h.opened; count = h.count }

abbrev pub HolderIs : List ℕ → ℕ → Optional (HolderHead × ℕ) → Type 0
HolderIs s at (Some (h, next)) = ReadsTo entries.holder_head s at (holder_of h) next × (h.count ≤ entries.max_count)
HolderIs s at None = Refuses entries.holder_head s at

unfoldable pub arguments_of : Optional HolderHead → Option entries.HolderHead
arguments_of (Some h) = some (holder_of h)
arguments_of None = none

-- the number of fields
unfoldable pub argument_count : Optional HolderHead → ℕ
argument_count (Some h) = h.count
argument_count None = 0

abbrev pub ArgumentsAre : List ℕ → ℕ → Optional (Optional HolderHead × ℕ) → Type 0
ArgumentsAre s at (Some (a, next)) = ReadsTo entries.arguments_head s at (arguments_of a) next × (argument_count a ≤ entries.max_count)
ArgumentsAre s at None = Refuses entries.arguments_head s at

unfoldable pub schema_of : SchemaHead → entries.SchemaHead
schema_of h = record { fields = holder_of h.fields; arguments = arguments_of h.arguments }

abbrev pub SchemaIs : List ℕ → ℕ → Optional (SchemaHead × ℕ) → Type 0
SchemaIs s at (Some (h, next)) =
    ReadsTo entries.schema_head s at (schema_of h) next × (h.fields.count ≤ entries.max_count) × (argument_count h.arguments ≤ entries.max_count)
SchemaIs s at None = Refuses entries.schema_head s at

abbrev pub FieldMarksAre : List ℕ → ℕ → Optional (FieldMarks × ℕ) → Type 0
FieldMarksAre s at (Some (m, next)) = ReadsTo field_marks s at m next × (m.kind ≤ 12) × (m.count ≤ entries.max_count)
FieldMarksAre s at None = Refuses field_marks s at

-- a name of at most 512 bytes that is at most `reach` bytes after place `at`
pub record NamePlaced (at reach : ℕ) (name : Part) : Type 0 where
  pub after : at ≤ name.start
  pub near : name.start ≤ at + reach
  pub short : name.len ≤ entries.max_text

abbrev pub FieldTextsAre : List ℕ → ℕ → Optional (FieldTexts × ℕ) → Type 0
FieldTextsAre s at (Some (t, next)) =
    ReadsTo field_texts s at (part_of s t.name, optional_of s t.tag) next × NamePlaced at 9 t.name
FieldTextsAre s at None = Refuses field_texts s at

unfoldable pub field_of : List ℕ → FieldHead → entries.FieldHead
field_of s h =
    record {
      kind = h.kind;
      is_open = h.opened;
      has_items = h.items;
      count = h.count;
      name = part_of s h.name;
      tag = optional_of s h.tag;
    }

-- what comes before a name is at longest `F,12,0,1,2048,512,512,`
abbrev pub max_prefix : ℕ
max_prefix = 22

abbrev pub FieldIs : List ℕ → ℕ → Optional (FieldHead × ℕ) → Type 0
FieldIs s at (Some (h, next)) =
    ReadsTo entries.field_head s at (field_of s h) next × (h.kind ≤ 12) × (h.count ≤ entries.max_count) × NamePlaced at max_prefix h.name
FieldIs s at None = Refuses entries.field_head s at

-- a tag of that length whose first byte is at `at`
unfoldable pub tag_at : ℕ → Optional ℕ → Optional Part
tag_at at (Some n) = Some (record { start = at; len = n })
tag_at at None = None

unfoldable pub tag_bytes : Optional ℕ → ℕ
tag_bytes (Some n) = n
tag_bytes None = 0

-- if a field's entry is read there, it has that head, and `next` is the place after it
pub record KnownTo (s : List ℕ) (at : ℕ) (h : FieldHead) (next : ℕ) : Type 0 where
  pub reads : (g : entries.FieldHead) (t : List ℕ) → entries.field_head (drop at s) ≡ some (g, t) → (field_of s h ≡ g) × (drop next s ≡ t)
  pub count : h.count ≤ entries.max_count
  pub past : at < next
  pub within : next ≤ length s

-- no field's entry is read there
abbrev pub Unread : List ℕ → ℕ → Type 0
Unread s at = (g : entries.FieldHead) (t : List ℕ) → entries.field_head (drop at s) ≡ some (g, t) → ⊥

abbrev pub KnownFieldIs : List ℕ → ℕ → Optional (FieldHead × ℕ) → Type 0
KnownFieldIs s at (Some (h, next)) = KnownTo s at h next
KnownFieldIs s at None = Unread s at

-- The entries of a rule sheet.

unfoldable pub rule_of : List ℕ → RuleHead → entries.RuleHead
rule_of s (rule-head.Rule name message) = entries.rule (optional_of s name) (optional_of s message)
rule_of s rule-head.Template = entries.template

abbrev pub RuleTextsAre : List ℕ → ℕ → Optional (RuleHead × ℕ) → Type 0
RuleTextsAre s at (Some (h, next)) = ReadsTo rule_texts s at (rule_of s h) next
RuleTextsAre s at None = Refuses rule_texts s at

abbrev pub RuleIs : List ℕ → ℕ → Optional (RuleHead × ℕ) → Type 0
RuleIs s at (Some (h, next)) = ReadsTo entries.rule_head s at (rule_of s h) next
RuleIs s at None = Refuses entries.rule_head s at

unfoldable pub condition_of : List ℕ → ConditionHead → entries.ConditionHead
condition_of s (condition-head.Literal truth) = entries.literal_head truth
condition_of s (condition-head.Many op count) = entries.many_head op count
condition_of s condition-head.Negation = entries.negation_head
condition_of s (condition-head.One op) = entries.one_head op
condition_of s (condition-head.Two op) = entries.two_head op
condition_of s (condition-head.Comparison which) = entries.comparison_head which
condition_of s (condition-head.Quantifier op bind) = entries.quantifier_head op (part_of s bind)

-- how many conditions are announced
unfoldable pub condition_count : ConditionHead → ℕ
condition_count (condition-head.Literal truth) = 0
condition_count (condition-head.Many op count) = count
condition_count condition-head.Negation = 1
condition_count (condition-head.One op) = 0
condition_count (condition-head.Two op) = 0
condition_count (condition-head.Comparison which) = 0
condition_count (condition-head.Quantifier op bind) = 1

abbrev pub ConditionIs : List ℕ → ℕ → Optional (ConditionHead × ℕ) → Type 0
ConditionIs s at (Some (h, next)) = ReadsTo entries.condition_head s at (condition_of s h) next × (condition_count h ≤ entries.max_count)
ConditionIs s at None = Refuses entries.condition_head s at

-- how many values are announced
unfoldable pub operand_count : ConditionHead → ℕ
operand_count (condition-head.Literal truth) = 0
operand_count (condition-head.Many op count) = 0
operand_count condition-head.Negation = 0
operand_count (condition-head.One op) = 1
operand_count (condition-head.Two op) = 2
operand_count (condition-head.Comparison which) = 2
operand_count (condition-head.Quantifier op bind) = 1

-- a condition that so many values follow, and no conditions, is read from place `at` on, and stops at `next`
pub record PlainRead (s : List ℕ) (at next values : ℕ) : Type 0 where
  pub head : ConditionHead
  pub reads : ReadsTo entries.condition_head s at (condition_of s head) next
  pub operands : operand_count head ≡ values
  pub alone : condition_count head ≡ 0

-- four times the place after such a condition, with how many values follow; 0 says nothing
abbrev pub PlainIs : List ℕ → ℕ → ℕ → Type 0
PlainIs s at r = 0 < r → PlainRead s at (r / 4) (r % 4)

unfoldable pub value_of : List ℕ → ValueHead → entries.ValueHead
value_of s (value-head.Constant type) = entries.constant_head type
value_of s (value-head.Number digits) = entries.number_head (part_of s digits)
value_of s (value-head.Text string) = entries.string_head (part_of s string)
value_of s (value-head.Array count) = entries.array_head count
value_of s (value-head.Object count) = entries.object_head count

-- how many values are announced
unfoldable pub value_count : ValueHead → ℕ
value_count (value-head.Constant type) = 0
value_count (value-head.Number digits) = 0
value_count (value-head.Text string) = 0
value_count (value-head.Array count) = count
value_count (value-head.Object count) = count

abbrev pub ValueIs : List ℕ → ℕ → Optional (ValueHead × ℕ) → Type 0
ValueIs s at (Some (h, next)) = ReadsTo entries.value_head s at (value_of s h) next × (value_count h ≤ entries.max_count)
ValueIs s at None = Refuses entries.value_head s at

-- a value that holds no others is read from place `at` on, and stops at `next`
pub record LeafRead (s : List ℕ) (at next : ℕ) : Type 0 where
  pub head : ValueHead
  pub reads : ReadsTo entries.value_head s at (value_of s head) next
  pub bare : value_count head ≡ 0

-- the type's number of such a value, read with the comma after it; 0 says nothing
abbrev pub LeafTypeIs : List ℕ → ℕ → ℕ → Type 0
LeafTypeIs s at type = 0 < type → ReadsTo (first 86 1 7) s at type (at + 3) × ReadsTo comma s (at + 3) tt (at + 4) × (type ≤ 5)

-- the place after such a value; 0 says nothing
abbrev pub LeafEnds : List ℕ → ℕ → ℕ → Type 0
LeafEnds s at next = 0 < next → LeafRead s at next

abbrev pub KeyIs : List ℕ → ℕ → Optional (Part × ℕ) → Type 0
KeyIs s at (Some (k, next)) = ReadsTo entries.key_head s at (part_of s k) next
KeyIs s at None = Refuses entries.key_head s at
