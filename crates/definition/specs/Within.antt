-- When a tree is within the limits (docs/FORMAT.md, "Sheets"): a second reading of what a well formed sheet is, beside the decoder's.
-- Entries and nesting are counted on the tree, bytes on its writing.
use Rattle.std.specs.Prelude.{ℕ, ◌+◌, ◌≤◌, max, true, ◌≡◌, length}
use Rattle.std.proofs.Math.Option.{Option, none, some}
use Rattle.text.specs.Order.{precedes}
use Rattle.number.specs.Grammar.{is_number}
use Rattle.sheet.specs.Operators as Operators
use Rattle.sheet.specs.Operators.{InShape}
use Rattle.sheet.specs.Within.{TextWithin, OptionWithin}
use Rattle.definition.specs.Tree.{Text, Field, field, Items, absent, element, Members, no_members, member, Holder, Schema, Value, constant, number, string, array, object, Values, no_values, value, Pairs, no_pairs, pair, Condition, literal, many, negation, one, two, comparison, quantifier, Conditions, no_conditions, condition, Rule, rule, template}
use Rattle.definition.specs.Limits.{max_sheet_bytes, max_schema_entries, max_rule_entries, max_field_nesting, max_condition_nesting, max_value_nesting}
use Rattle.definition.specs.Write.{write_schema, write_rule}

-- How many entries a tree takes.

unfoldable mutual
  pub field_entries : Field → ℕ
  field_entries (field e kind is_open tag items ms) = 1 + (items_entries items + members_entries ms)

  pub items_entries : Items → ℕ
  items_entries absent = 0
  items_entries (element f) = field_entries f

  pub members_entries : Members → ℕ
  members_entries no_members = 0
  members_entries (member name f others) = field_entries f + members_entries others

unfoldable pub arguments_entries : Option Holder → ℕ
arguments_entries none = 0
arguments_entries (some h) = members_entries h.members

unfoldable pub schema_entries : Schema → ℕ
schema_entries t = 1 + (members_entries t.fields.members + arguments_entries t.arguments)

-- a key is an entry of its own
unfoldable mutual
  pub value_entries : Value → ℕ
  value_entries (constant e type) = 1
  value_entries (number e digits) = 1
  value_entries (string e text) = 1
  value_entries (array e vs) = 1 + values_entries vs
  value_entries (object e pairs) = 1 + pairs_entries pairs

  pub values_entries : Values → ℕ
  values_entries no_values = 0
  values_entries (value v others) = value_entries v + values_entries others

  pub pairs_entries : Pairs → ℕ
  pairs_entries no_pairs = 0
  pairs_entries (pair key v others) = 1 + (value_entries v + pairs_entries others)

unfoldable mutual
  pub condition_entries : Condition → ℕ
  condition_entries (literal e truth) = 1
  condition_entries (many e op children) = 1 + conditions_entries children
  condition_entries (negation e child) = 1 + condition_entries child
  condition_entries (one e op v) = 1 + value_entries v
  condition_entries (two e op left right) = 1 + (value_entries left + value_entries right)
  condition_entries (comparison e which left right) = 1 + (value_entries left + value_entries right)
  condition_entries (quantifier e op bind over body) = 1 + (value_entries over + condition_entries body)

  pub conditions_entries : Conditions → ℕ
  conditions_entries no_conditions = 0
  conditions_entries (condition c others) = condition_entries c + conditions_entries others

unfoldable pub rule_entries : Rule → ℕ
rule_entries (rule name message assert) = 1 + condition_entries assert
rule_entries (template v) = 1 + value_entries v

-- How deep a tree nests, the outermost counting 1.

unfoldable mutual
  pub field_nesting : Field → ℕ
  field_nesting (field e kind is_open tag items ms) = 1 + max (items_nesting items) (members_nesting ms)

  pub items_nesting : Items → ℕ
  items_nesting absent = 0
  items_nesting (element f) = field_nesting f

  pub members_nesting : Members → ℕ
  members_nesting no_members = 0
  members_nesting (member name f others) = max (field_nesting f) (members_nesting others)

unfoldable pub arguments_nesting : Option Holder → ℕ
arguments_nesting none = 0
arguments_nesting (some h) = members_nesting h.members

unfoldable pub schema_nesting : Schema → ℕ
schema_nesting t = max (members_nesting t.fields.members) (arguments_nesting t.arguments)

unfoldable mutual
  pub value_nesting : Value → ℕ
  value_nesting (constant e type) = 1
  value_nesting (number e digits) = 1
  value_nesting (string e text) = 1
  value_nesting (array e vs) = 1 + values_nesting vs
  value_nesting (object e pairs) = 1 + pairs_nesting pairs

  pub values_nesting : Values → ℕ
  values_nesting no_values = 0
  values_nesting (value v others) = max (value_nesting v) (values_nesting others)

  pub pairs_nesting : Pairs → ℕ
  pairs_nesting no_pairs = 0
  pairs_nesting (pair key v others) = max (value_nesting v) (pairs_nesting others)

unfoldable mutual
  pub condition_nesting : Condition → ℕ
  condition_nesting (literal e truth) = 1
  condition_nesting (many e op children) = 1 + conditions_nesting children
  condition_nesting (negation e child) = 1 + condition_nesting child
  condition_nesting (one e op v) = 1
  condition_nesting (two e op left right) = 1
  condition_nesting (comparison e which left right) = 1
  condition_nesting (quantifier e op bind over body) = 1 + condition_nesting body

  pub conditions_nesting : Conditions → ℕ
  conditions_nesting no_conditions = 0
  conditions_nesting (condition c others) = max (condition_nesting c) (conditions_nesting others)

-- Sibling names rise, none twice: each comes after the one before it, if there is one. An element is not a sibling of the properties beside it.

abbrev pub Behind : Option Text → Text → Type 0
Behind none name = Unit {0}
Behind (some before) name = precedes before name ≡ true

abbrev mutual
  pub FieldRises : Field → Type 0
  FieldRises (field e kind is_open tag items ms) = ItemsRise items × MembersRise none ms

  pub ItemsRise : Items → Type 0
  ItemsRise absent = Unit {0}
  ItemsRise (element f) = FieldRises f

  pub MembersRise : Option Text → Members → Type 0
  MembersRise before no_members = Unit {0}
  MembersRise before (member name f others) = Behind before name × FieldRises f × MembersRise (some name) others

abbrev pub ArgumentsRise : Option Holder → Type 0
ArgumentsRise none = Unit {0}
ArgumentsRise (some h) = MembersRise none h.members

abbrev pub SchemaRises : Schema → Type 0
SchemaRises t = MembersRise none t.fields.members × ArgumentsRise t.arguments

-- Kinds, operators, types and texts are ones that an entry may hold.

abbrev mutual
  pub FieldFits : Field → Type 0
  FieldFits (field e kind is_open tag items ms) = ((1 ≤ kind) × (kind ≤ 12)) × OptionWithin tag × ItemsFit items × MembersFit ms

  pub ItemsFit : Items → Type 0
  ItemsFit absent = Unit {0}
  ItemsFit (element f) = FieldFits f

  pub MembersFit : Members → Type 0
  MembersFit no_members = Unit {0}
  MembersFit (member name f others) = TextWithin name × FieldFits f × MembersFit others

abbrev pub ArgumentsFit : Option Holder → Type 0
ArgumentsFit none = Unit {0}
ArgumentsFit (some h) = MembersFit h.members

-- No key of an object occurs twice: each differs from all after it.

abbrev pub NoneKeyed : Text → Pairs → Type 0
NoneKeyed key no_pairs = Unit {0}
NoneKeyed key (pair k v others) = (key ≡ k → ⊥) × NoneKeyed key others

abbrev pub KeysDiffer : Pairs → Type 0
KeysDiffer no_pairs = Unit {0}
KeysDiffer (pair key v others) = NoneKeyed key others × KeysDiffer others

abbrev mutual
  pub ValueFits : Value → Type 0
  ValueFits (constant e type) = (1 ≤ type) × (type ≤ 3)
  ValueFits (number e digits) = TextWithin digits × (is_number digits ≡ true)
  ValueFits (string e text) = TextWithin text
  ValueFits (array e vs) = ValuesFit vs
  ValueFits (object e pairs) = KeysDiffer pairs × PairsFit pairs

  pub ValuesFit : Values → Type 0
  ValuesFit no_values = Unit {0}
  ValuesFit (value v others) = ValueFits v × ValuesFit others

  pub PairsFit : Pairs → Type 0
  PairsFit no_pairs = Unit {0}
  PairsFit (pair key v others) = TextWithin key × ValueFits v × PairsFit others

-- an operand, an `in` value or a template
pub record OperandFits (v : Value) : Type 0 where
  pub nesting : value_nesting v ≤ max_value_nesting
  pub fits : ValueFits v

abbrev mutual
  pub ConditionFits : Condition → Type 0
  ConditionFits (literal e truth) = Unit {0}
  ConditionFits (many e op children) = InShape op Operators.many × ConditionsFit children
  ConditionFits (negation e child) = ConditionFits child
  ConditionFits (one e op v) = InShape op Operators.one × OperandFits v
  ConditionFits (two e op left right) = InShape op Operators.two × OperandFits left × OperandFits right
  ConditionFits (comparison e which left right) = ((1 ≤ which) × (which ≤ 6)) × OperandFits left × OperandFits right
  ConditionFits (quantifier e op bind over body) = InShape op Operators.quantifier × TextWithin bind × OperandFits over × ConditionFits body

  pub ConditionsFit : Conditions → Type 0
  ConditionsFit no_conditions = Unit {0}
  ConditionsFit (condition c others) = ConditionFits c × ConditionsFit others

abbrev pub RuleFits : Rule → Type 0
RuleFits (rule name message assert) = OptionWithin name × OptionWithin message × (condition_nesting assert ≤ max_condition_nesting) × ConditionFits assert
RuleFits (template v) = OperandFits v

-- The numbers in a tree are those of its entries: the first has the number given, the others follow in order.

abbrev mutual
  pub FieldFrom : ℕ → Field → Type 0
  FieldFrom n (field e kind is_open tag items ms) = (e ≡ n) × ItemsFrom (n + 1) items × MembersFrom (n + 1 + items_entries items) ms

  pub ItemsFrom : ℕ → Items → Type 0
  ItemsFrom n absent = Unit {0}
  ItemsFrom n (element f) = FieldFrom n f

  pub MembersFrom : ℕ → Members → Type 0
  MembersFrom n no_members = Unit {0}
  MembersFrom n (member name f others) = FieldFrom n f × MembersFrom (n + field_entries f) others

abbrev pub ArgumentsFrom : ℕ → Option Holder → Type 0
ArgumentsFrom n none = Unit {0}
ArgumentsFrom n (some h) = MembersFrom n h.members

abbrev mutual
  pub ValueFrom : ℕ → Value → Type 0
  ValueFrom n (constant e type) = e ≡ n
  ValueFrom n (number e digits) = e ≡ n
  ValueFrom n (string e text) = e ≡ n
  ValueFrom n (array e vs) = (e ≡ n) × ValuesFrom (n + 1) vs
  ValueFrom n (object e pairs) = (e ≡ n) × PairsFrom (n + 1) pairs

  pub ValuesFrom : ℕ → Values → Type 0
  ValuesFrom n no_values = Unit {0}
  ValuesFrom n (value v others) = ValueFrom n v × ValuesFrom (n + value_entries v) others

  pub PairsFrom : ℕ → Pairs → Type 0
  PairsFrom n no_pairs = Unit {0}
  PairsFrom n (pair key v others) = ValueFrom (n + 1) v × PairsFrom (n + 1 + value_entries v) others

abbrev mutual
  pub ConditionFrom : ℕ → Condition → Type 0
  ConditionFrom n (literal e truth) = e ≡ n
  ConditionFrom n (many e op children) = (e ≡ n) × ConditionsFrom (n + 1) children
  ConditionFrom n (negation e child) = (e ≡ n) × ConditionFrom (n + 1) child
  ConditionFrom n (one e op v) = (e ≡ n) × ValueFrom (n + 1) v
  ConditionFrom n (two e op left right) = (e ≡ n) × ValueFrom (n + 1) left × ValueFrom (n + 1 + value_entries left) right
  ConditionFrom n (comparison e which left right) = (e ≡ n) × ValueFrom (n + 1) left × ValueFrom (n + 1 + value_entries left) right
  ConditionFrom n (quantifier e op bind over body) = (e ≡ n) × ValueFrom (n + 1) over × ConditionFrom (n + 1 + value_entries over) body

  pub ConditionsFrom : ℕ → Conditions → Type 0
  ConditionsFrom n no_conditions = Unit {0}
  ConditionsFrom n (condition c others) = ConditionFrom n c × ConditionsFrom (n + condition_entries c) others

abbrev pub RuleFrom : ℕ → Rule → Type 0
RuleFrom n (rule name message assert) = ConditionFrom (n + 1) assert
RuleFrom n (template v) = ValueFrom (n + 1) v

-- The trees of well formed sheets

pub record SchemaWithin (t : Schema) : Type 0 where
  pub entries : schema_entries t ≤ max_schema_entries
  pub bytes : length (write_schema t) ≤ max_sheet_bytes
  pub nesting : schema_nesting t ≤ max_field_nesting
  pub rises : SchemaRises t
  pub fits : MembersFit t.fields.members × ArgumentsFit t.arguments
  -- the first entry is the sheet's head
  pub numbers : MembersFrom 2 t.fields.members × ArgumentsFrom (2 + members_entries t.fields.members) t.arguments

pub record RuleWithin (t : Rule) : Type 0 where
  pub entries : rule_entries t ≤ max_rule_entries
  pub bytes : length (write_rule t) ≤ max_sheet_bytes
  pub fits : RuleFits t
  pub numbers : RuleFrom 1 t
