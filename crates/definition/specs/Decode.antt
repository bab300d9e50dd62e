-- From the bytes of a sheet to its tree, or none where the sheet is not well formed (docs/FORMAT.md, "Sheets").
-- The depth that is left bounds the nesting. An entry limit is a budget, from which an entry pays for all that it announces.
use Rattle.std.specs.Prelude.{ℕ, zero, suc, ◌+◌, ◌*◌, ◌-◌, Bool, true, false, cond, List, [], ◌∷◌, length, leb, eqb}
use Rattle.std.proofs.Math.Option.{Option, none, some, map}
use Rattle.text.specs.Reader.{Reader, ◌>>=◌, ◌>>◌, ensure, pure, refuse}
use Rattle.text.specs.Order.{follows, none_twice}
use Rattle.sheet.specs.Entries.{HolderHead, schema_head, field_head, RuleHead, rule_head, ConditionHead, literal_head, many_head, negation_head, one_head, two_head, comparison_head, quantifier_head, condition_head, ValueHead, constant_head, number_head, string_head, array_head, object_head, value_head, key_head}
use Rattle.sheet.specs.Entries as Entries
use Rattle.definition.specs.Tree.{Text, Field, field, Items, absent, element, Members, no_members, member, Holder, Schema, Value, constant, number, string, array, object, Values, no_values, value, Pairs, no_pairs, pair, Condition, literal, many, negation, one, two, comparison, quantifier, Conditions, no_conditions, condition, Rule, rule, template}
use Rattle.definition.specs.Limits.{max_sheet_bytes, max_schema_entries, max_rule_entries, max_field_nesting, max_condition_nesting, max_value_nesting}

-- what lies ahead of a reader: the next entry's number, how many more entries may be announced, and the bytes
pub record Ahead : Type 0 where
  pub next : ℕ
  pub left : ℕ
  pub rest : List ℕ

-- one entry, with its number
unfoldable pub entered : {A : Type 0} → ℕ → ℕ → Option (A × List ℕ) → Option ((ℕ × A) × Ahead)
entered next left none = none
entered next left (some r) = some ((next, r.0), record { next = next + 1; left = left; rest = r.1 })

unfoldable pub entry : {A : Type 0} → Reader (List ℕ) A → Reader Ahead (ℕ × A)
entry p a = entered a.next a.left (p a.rest)

-- `n` more entries are announced
unfoldable pub announce : ℕ → Reader Ahead (Unit {0})
announce n a = cond (leb n a.left) (some (tt, record { next = a.next; left = a.left - n; rest = a.rest })) none

-- nothing follows the last entry
unfoldable pub at_end : Reader Ahead (Unit {0})
at_end a = ensure (eqb (length a.rest) 0) a

-- a sheet as a whole, of at most `limit` entries, the first of them announced by the sheet itself
unfoldable pub whole : {A : Type 0} → ℕ → Reader Ahead A → List ℕ → Option A
whole limit p s =
    map (λ r. r.0)
    ((do
      ensure (leb (length s) max_sheet_bytes)
      announce 1
      t ← p
      at_end
      pure t) (record { next = 1; left = limit; rest = s }))

-- Fields: a field's name is read with it, and is beside it in the tree.

unfoldable pub element_of : Bool → Reader Ahead (Text × Field) → Reader Ahead Items
element_of false p = pure absent
element_of true p = do
  f ← p
  ensure (eqb (length f.0) 0)
  pure (element f.1)

unfoldable pub members_of : ℕ → Option Text → Reader Ahead (Text × Field) → Reader Ahead Members
members_of zero before p = pure no_members
members_of (suc n) before p = do
  f ← p
  ensure (follows before f.0)
  others ← members_of n (some f.0) p
  pure (member f.0 f.1 others)

unfoldable pub to_count : Bool → ℕ
to_count false = 0
to_count true = 1

unfoldable pub field_in : ℕ → Reader Ahead (Text × Field)
field_in zero = refuse
field_in (suc depth) = do
  h ← entry field_head
  announce (to_count h.1.has_items + h.1.count)
  items ← element_of h.1.has_items (field_in depth)
  members ← members_of h.1.count none (field_in depth)
  pure (h.1.name, field h.0 h.1.kind h.1.is_open h.1.tag items members)

unfoldable pub holder_of : HolderHead → Reader Ahead Holder
holder_of h = do
  announce h.count
  members ← members_of h.count none (field_in max_field_nesting)
  pure (record { is_open = h.is_open; members = members })

unfoldable pub arguments_of : Option HolderHead → Reader Ahead (Option Holder)
arguments_of none = pure none
arguments_of (some h) = do
  arguments ← holder_of h
  pure (some arguments)

unfoldable pub schema : Reader Ahead Schema
schema = do
  h ← entry schema_head
  fields ← holder_of h.1.fields
  arguments ← arguments_of h.1.arguments
  pure (record { fields = fields; arguments = arguments })

unfoldable pub decode_schema : List ℕ → Option Schema
decode_schema = whole max_schema_entries schema

-- Values

unfoldable pub values_of : ℕ → Reader Ahead Value → Reader Ahead Values
values_of zero p = pure no_values
values_of (suc n) p = do
  v ← p
  others ← values_of n p
  pure (value v others)

unfoldable pub pairs_of : ℕ → Reader Ahead Value → Reader Ahead Pairs
pairs_of zero p = pure no_pairs
pairs_of (suc n) p = do
  k ← entry key_head
  v ← p
  others ← pairs_of n p
  pure (pair k.1 v others)

unfoldable pub keys_of : Pairs → List Text
keys_of no_pairs = []
keys_of (pair key v others) = key ∷ keys_of others

-- an object's keys are in the order given, none twice
unfoldable pub object_of : ℕ → Reader Ahead Value → Reader Ahead Pairs
object_of n p = do
  pairs ← pairs_of n p
  ensure (none_twice (keys_of pairs))
  pure pairs

unfoldable pub value_of : ℕ → ValueHead → Reader Ahead Value → Reader Ahead Value
value_of e (constant_head type) p = pure (constant e type)
value_of e (number_head t) p = pure (number e t)
value_of e (string_head t) p = pure (string e t)
value_of e (array_head n) p = do
  announce n
  values ← values_of n p
  pure (array e values)
value_of e (object_head n) p = do
  announce (2 * n)
  pairs ← object_of n p
  pure (object e pairs)

unfoldable pub value_in : ℕ → Reader Ahead Value
value_in zero = refuse
value_in (suc depth) = do
  h ← entry value_head
  value_of h.0 h.1 (value_in depth)

abbrev pub any_value : Reader Ahead Value
any_value = value_in max_value_nesting

-- Conditions

unfoldable pub conditions_of : ℕ → Reader Ahead Condition → Reader Ahead Conditions
conditions_of zero p = pure no_conditions
conditions_of (suc n) p = do
  c ← p
  others ← conditions_of n p
  pure (condition c others)

unfoldable pub condition_of : ℕ → ConditionHead → Reader Ahead Condition → Reader Ahead Condition
condition_of e (literal_head truth) p = pure (literal e truth)
condition_of e (many_head op n) p = do
  announce n
  children ← conditions_of n p
  pure (many e op children)
condition_of e negation_head p = do
  announce 1
  child ← p
  pure (negation e child)
condition_of e (one_head op) p = do
  announce 1
  v ← any_value
  pure (one e op v)
condition_of e (two_head op) p = do
  announce 2
  left ← any_value
  right ← any_value
  pure (two e op left right)
condition_of e (comparison_head which) p = do
  announce 2
  left ← any_value
  right ← any_value
  pure (comparison e which left right)
condition_of e (quantifier_head op bind) p = do
  announce 2
  over ← any_value
  body ← p
  pure (quantifier e op bind over body)

unfoldable pub condition_in : ℕ → Reader Ahead Condition
condition_in zero = refuse
condition_in (suc depth) = do
  h ← entry condition_head
  condition_of h.0 h.1 (condition_in depth)

unfoldable pub rule_of : RuleHead → Reader Ahead Rule
rule_of (Entries.rule name message) = do
  announce 1
  assert ← condition_in max_condition_nesting
  pure (rule name message assert)
rule_of Entries.template = do
  announce 1
  v ← any_value
  pure (template v)

unfoldable pub any_rule : Reader Ahead Rule
any_rule = do
  h ← entry rule_head
  rule_of h.1

unfoldable pub decode_rule : List ℕ → Option Rule
decode_rule = whole max_rule_entries any_rule
